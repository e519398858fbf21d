use Rattle.std.proofs.Common.{IfSome, vec_len}
use Rattle.desk_tests.specs.Crowd.{AreBack}
use Rattle.esx_desk.specs.Told.{IsOf}
use Rattle.desk_tests.proofs.crowd.meet_all.Given as goal

abbrev pub invariant-loop-one : goal.invariant-loop-one
invariant-loop-one l = AreBack l.desk l.worked.items × IfSome l.met (IsOf l.desk)

abbrev pub decreases-loop-one : goal.decreases-loop-one
decreases-loop-one l = vec_len l.worked
