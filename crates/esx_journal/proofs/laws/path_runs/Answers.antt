use Rattle.esx_journal.specs.Children.{no_row}
use Rattle.esx_journal.proofs.Grows.{runs_at, book_is}
use Rattle.esx_journal.proofs.laws.path_runs.Goals as goal

pub returns-clause-scene : goal.returns-clause-scene
returns-clause-scene c = λ h holds. runs_at _ h no_row holds

pub returns-clause-book : goal.returns-clause-book
returns-clause-book c = λ h holds. book_is _ h no_row holds
