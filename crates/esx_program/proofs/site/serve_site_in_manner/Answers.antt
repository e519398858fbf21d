use Rattle.esx_program.specs.Site.{at_opening}
use Rattle.esx_program.proofs.site.serve_site_in_manner.Goals as goal

pub returns-in-Err-clause-fault : goal.returns-in-Err-clause-fault
returns-in-Err-clause-fault g c = (at_opening c.args.config, c.give_up.ensures.at_once_in c.args.manner 0 (at_opening c.args.config) _ _)

pub returns-in-Err-clause-streams : goal.returns-in-Err-clause-streams
returns-in-Err-clause-streams g c = c.give_up.ensures.streams _
