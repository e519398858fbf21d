use Rattle.std.proofs.Common.{◌≡◌, length}
use Rattle.bench_tables.proofs.work.array.Given as goal

abbrev pub invariant-loop-step : goal.invariant-loop-step
invariant-loop-step l = length l.rows.items ≡ l.fn.size
