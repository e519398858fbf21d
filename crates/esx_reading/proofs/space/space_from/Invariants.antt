use Rattle.std.proofs.Common.{take}
use Rattle.esx_reading.specs.Fields.{HasNoSpace}
use Rattle.esx_reading.proofs.space.space_from.Given as goal

abbrev pub invariant-loop-i : goal.invariant-loop-i
invariant-loop-i l = HasNoSpace (take l.i l.bytes)
