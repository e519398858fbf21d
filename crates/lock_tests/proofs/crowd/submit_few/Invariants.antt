use Rattle.lock_tests.specs.Passes.{IsIdle}
use Rattle.lock_tests.proofs.crowd.submit_few.Given as goal

abbrev pub invariant-loop-number : goal.invariant-loop-number
invariant-loop-number g l = IsIdle l.lock l.pass
