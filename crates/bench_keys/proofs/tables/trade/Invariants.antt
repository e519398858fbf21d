use Rattle.std.proofs.Common.{◌<◌}
use Rattle.esx_keys.specs.Table.{entry_count}
use Rattle.bench_keys.proofs.tables.trade.Given as goal

abbrev pub invariant-loop : goal.invariant-loop
invariant-loop l = entry_count l.keys < l.keys.room
