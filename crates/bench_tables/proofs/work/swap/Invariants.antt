use Rattle.std.proofs.Common.{◌≡◌, length}
use Rattle.bench_tables.proofs.work.swap.Given as goal

abbrev pub invariant-loop : goal.invariant-loop
invariant-loop l = length l.table ≡ length l.fn.table
