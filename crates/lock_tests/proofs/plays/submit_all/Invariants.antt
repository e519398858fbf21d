use Rattle.lock_tests.specs.Passes.{IsIdle}
use Rattle.lock_tests.proofs.plays.submit_all.Given as goal

abbrev pub invariant-loop-number : goal.invariant-loop-number
invariant-loop-number g l = IsIdle l.lock l.pass
