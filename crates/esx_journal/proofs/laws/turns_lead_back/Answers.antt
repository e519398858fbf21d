use Rattle.esx_journal.proofs.Reaching.{reached_steady}
use Rattle.esx_journal.proofs.Turning.{redo_leads_home, undo_leads_home}
use Rattle.esx_journal.proofs.laws.turns_lead_back.Goals as goal

pub returns-clause-by_redo : goal.returns-clause-by_redo
returns-clause-by_redo c = λ k h after turns count r e sums. (let s = reached_steady k h r in redo_leads_home h after turns count s.tree s.walk s.way e sums)

pub returns-clause-by_undo : goal.returns-clause-by_undo
returns-clause-by_undo c = λ k h after turns count r e sums. (let s = reached_steady k h r in undo_leads_home h after turns count s.tree s.walk e sums)
