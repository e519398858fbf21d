use Rattle.esx_journal.proofs.Moves.{undo_none}
use Rattle.esx_journal.proofs.Reaching.{shortens}
use Rattle.esx_journal.proofs.laws.undo_shortens.Goals as goal

pub returns-clause-accepted : goal.returns-clause-accepted
returns-clause-accepted c = λ k h count r deep. shortens k h count r deep

pub returns-clause-refused : goal.returns-clause-refused
returns-clause-refused c = λ h count deep. undo_none count h deep
