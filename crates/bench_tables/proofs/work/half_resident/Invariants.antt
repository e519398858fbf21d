use Rattle.std.proofs.Common.{◌≡◌, length}
use Rattle.bench_tables.proofs.work.half_resident.Given as goal

abbrev pub invariant-loop-page : goal.invariant-loop-page
invariant-loop-page l = length l.map ≡ l.fn.size
