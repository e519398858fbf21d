use Rattle.esx_console.specs.Calls.{opened_session}
use Rattle.esx_program.proofs.recording.make.Goals as goal

pub returns-in_default-clause-fault : goal.returns-in_default-clause-fault
returns-in_default-clause-fault g c = (opened_session c.args.site, c.give_up.ensures.at_once 0 (opened_session c.args.site) _ _)
