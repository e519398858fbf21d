use Rattle.std.proofs.Common.{take}
use Rattle.std.specs.List.{flat_map}
use Rattle.esx_opening.specs.Openings.{AreAccepted, admit_of}
use Rattle.esx_opening.proofs.opening.admit_all.Given as goal

abbrev pub invariant-loop-guest : goal.invariant-loop-guest
invariant-loop-guest l = AreAccepted (flat_map (λ g. admit_of g.now) (take l.guest-index l.guests)) l.initial.console l.console
