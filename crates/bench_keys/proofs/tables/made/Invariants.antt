use Rattle.std.proofs.Common.{◌≡◌, ◌≤◌}
use Rattle.esx_keys.specs.Table.{entry_count}
use Rattle.bench_keys.proofs.tables.made.Given as goal

abbrev pub invariant-loop-page : goal.invariant-loop-page
invariant-loop-page l = record { count : entry_count l.keys ≤ l.page; room : l.keys.room ≡ l.work.room }
