use Rattle.std.proofs.Common.{◌∙◌, sym, ap, subst, Ok}
use Rattle.esx_machine.specs.Machine.{book_in}
use Rattle.esx_journal.specs.Journal.{Kept, Holds, kept_after}
use Rattle.esx_journal.specs.Children.{no_row}
use Rattle.esx_journal.proofs.Grows.{book_is, book_here, shows_at}
use Rattle.esx_journal.proofs.journal.Journal.machine.Goals as goal

pub returns-clause-tables : goal.returns-clause-tables
unfolding kept_after
returns-clause-tables c = λ h holds. ap (λ (x : Kept). x.machine) c.self.view_is ∙ holds.shows

pub returns-clause-shows : goal.returns-clause-shows
returns-clause-shows c = λ h holds. (let P : Kept → Type 0 = λ x. Holds x h in shows_at _ h no_row (subst P (sym c.self.view_is) holds))

pub returns-clause-book : goal.returns-clause-book
returns-clause-book c = λ h holds. ap (λ (x : Kept). book_in x.machine) c.self.view_is ∙ book_here _ h no_row holds

pub returns-clause-replay : goal.returns-clause-replay
returns-clause-replay c = λ h holds. book_is _ h no_row holds ∙ ap (λ (x : Kept). Ok (book_in x.machine)) (sym c.self.view_is)
