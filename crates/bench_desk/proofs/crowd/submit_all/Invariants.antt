use Rattle.std.proofs.Common.{◌≤◌}
use Rattle.esx_desk.specs.Told.{IsOf}
use Rattle.bench_desk.proofs.crowd.submit_all.Given as goal

abbrev pub invariant-loop-turn : goal.invariant-loop-turn
invariant-loop-turn g l = IsOf l.desk l.pass × (l.answered ≤ l._turn)
