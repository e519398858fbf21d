use Rattle.esx_journal.proofs.Reaching.{lengthens}
use Rattle.esx_journal.proofs.laws.redo_lengthens.Goals as goal

pub returns : goal.returns
returns c = λ k h after count r e. lengthens k h after count r e
