use Rattle.esx_desk.specs.Told.{IsOf}
use Rattle.bench_desk.proofs.crowd.peek_until.Given as goal

abbrev pub invariant-loop : goal.invariant-loop
invariant-loop g l = IsOf l.desk l.pass
