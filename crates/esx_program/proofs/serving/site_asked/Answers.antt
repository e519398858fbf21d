use Rattle.std.proofs.Common.{Some}
use Rattle.esx_program.proofs.serving.site_asked.Goals as goal

pub returns-in-Ok-clause-site : goal.returns-in-Ok-clause-site
returns-in-Ok-clause-site g c = let read = c.in-Ok.ensures in rw c.in-Some.is (Some read.0, read.1, (c.in-Ok.scenario, read.2, c.config.ensures.same), tt)

pub returns-in-Err-clause-site : goal.returns-in-Err-clause-site
returns-in-Err-clause-site g c = let read = c.in-Err.ensures in rw c.in-Some.is (Some read.0, read.1, tt, read.3)
