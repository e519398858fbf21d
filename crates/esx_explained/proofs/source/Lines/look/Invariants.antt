use Rattle.std.proofs.Common.{length, ◌≡◌}
use Rattle.esx_explained.specs.Input.{after}
use Rattle.esx_explained.proofs.source.Lines.look.Given as goal

abbrev pub invariant-loop-at : goal.invariant-loop-at
invariant-loop-at g l = after l.self l.rest ≡ after l.initial.self l.initial.rest

abbrev pub decreases-loop-at : goal.decreases-loop-at
decreases-loop-at g l = length l.rest
