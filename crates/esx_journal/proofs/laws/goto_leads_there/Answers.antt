use Rattle.esx_journal.proofs.Sinking.{goto_none}
use Rattle.esx_journal.proofs.Visiting.{visits}
use Rattle.esx_journal.proofs.laws.goto_leads_there.Goals as goal

pub returns-clause-accepted : goal.returns-clause-accepted
returns-clause-accepted c = visits

pub returns-clause-refused : goal.returns-clause-refused
returns-clause-refused c = λ h node e. goto_none node h e
