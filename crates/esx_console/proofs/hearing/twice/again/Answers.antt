use Rattle.esx_console.proofs.Twice.{long, where_err}
use Rattle.esx_console.proofs.hearing.twice.again.Goals as goal

pub returns-in_default-clause-long : goal.returns-in_default-clause-long
returns-in_default-clause-long c = where_err c.copy.result (long c.args.said.now c.in_default.not-Refused c.in_default.not-Stand c.in_default.not-Pruned)
