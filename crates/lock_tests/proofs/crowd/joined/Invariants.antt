use Rattle.std.proofs.Common.{IfSome, vec_len}
use Rattle.lock_tests.specs.Crowd.{AreIdle}
use Rattle.lock_tests.specs.Passes.{IsIdle}
use Rattle.lock_tests.proofs.crowd.joined.Given as goal

abbrev pub invariant-loop-pass : goal.invariant-loop-pass
invariant-loop-pass l = AreIdle l.lock l.passes.items × IfSome l.all (IsIdle l.lock)

abbrev pub decreases-loop-pass : goal.decreases-loop-pass
decreases-loop-pass l = vec_len l.passes
