use Rattle.std.proofs.Common.{refl}
use Rattle.esx_scenario.proofs.StrangeLemmas.{table_strange, no_table_strange}
use Rattle.esx_scenario.proofs.strange.least_at.Goals as goal

pub returns-in-Some : goal.returns-in-Some
returns-in-Some c = rw (c.in-Some.is, table_strange c.args.version c.args.place c.args.prefix.now _) c.least_in.ensures

pub returns-in-None : goal.returns-in-None
returns-in-None c = rw (c.in-None.is, no_table_strange c.args.version c.args.place c.args.prefix.now) refl
