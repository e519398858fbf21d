use Rattle.lock_tests.specs.Passes.{IsIdle}
use Rattle.lock_tests.proofs.tests.looks.submit_each_round.Given as goal

abbrev pub invariant-loop-round : goal.invariant-loop-round
invariant-loop-round g l = IsIdle l.lock l.pass
