use Rattle.std.proofs.Common.{◌≡◌, take}
use Rattle.esx_tables.specs.Sizes.{size_of, capped}
use Rattle.esx_tables.proofs.record.size_of.Given as goal

abbrev pub invariant-loop-change : goal.invariant-loop-change
invariant-loop-change l = l.size ≡ capped (size_of (take l.change-index l.changes))
