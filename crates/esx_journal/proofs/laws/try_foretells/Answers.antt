use Rattle.esx_journal.proofs.Reaching.{reached_steady}
use Rattle.esx_journal.proofs.Foretelling.{tried_none, tried_accepted, tried_refused}
use Rattle.esx_journal.proofs.laws.try_foretells.Goals as goal

pub returns-clause-none : goal.returns-clause-none
returns-clause-none c = tried_none

pub returns-clause-accepted : goal.returns-clause-accepted
returns-clause-accepted c = λ k h after event events answer r e. tried_accepted k h after event events answer (reached_steady k h r) e

pub returns-clause-refused : goal.returns-clause-refused
returns-clause-refused c = λ h event events e d other. tried_refused h event events e d other
