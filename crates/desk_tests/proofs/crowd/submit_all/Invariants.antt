use Rattle.esx_desk.specs.Told.{IsOf}
use Rattle.desk_tests.proofs.crowd.submit_all.Given as goal

abbrev pub invariant-loop-number : goal.invariant-loop-number
invariant-loop-number g l = IsOf l.desk l.pass
