use Rattle.esx_journal.proofs.Visiting.{visit_after, free_name}
use Rattle.esx_journal.proofs.Naming.{names_lead}
use Rattle.esx_journal.proofs.laws.visit_is_a_goto.Goals as goal

pub returns-clause-named : goal.returns-clause-named
returns-clause-named c = visit_after

pub returns-clause-unnamed : goal.returns-clause-unnamed
returns-clause-unnamed c = free_name

pub returns-clause-listed : goal.returns-clause-listed
returns-clause-listed c = names_lead
