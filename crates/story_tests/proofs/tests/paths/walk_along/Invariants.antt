use Rattle.story_tests.specs.Within.{IsWithin}
use Rattle.story_tests.proofs.tests.paths.walk_along.Given as goal

abbrev pub invariant-loop-at : goal.invariant-loop-at
invariant-loop-at l = IsWithin l.at l.walk
