use Rattle.esx_program.proofs.SessionLemmas.{faults_of, no_telling}
use Rattle.esx_program.proofs.session.tell.Goals as goal

pub returns-in_default-clause-fault : goal.returns-in_default-clause-fault
returns-in_default-clause-fault g c = no_telling c.give_up.result (g.T.Told.text c.args.told.now) _ _ c.give_up.ensures.bytes

pub returns-in_default-clause-failures : goal.returns-in_default-clause-failures
returns-in_default-clause-failures g c = rw (faults_of c.give_up.result) c.give_up.ensures.failures

pub returns-in_default-clause-flushes : goal.returns-in_default-clause-flushes
returns-in_default-clause-flushes g c = rw (faults_of c.give_up.result) c.give_up.ensures.flushes
