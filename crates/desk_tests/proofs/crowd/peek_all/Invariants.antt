use Rattle.esx_desk.specs.Told.{IsOf}
use Rattle.desk_tests.proofs.crowd.peek_all.Given as goal

abbrev pub invariant-loop-turn : goal.invariant-loop-turn
invariant-loop-turn l = IsOf l.desk l.pass
