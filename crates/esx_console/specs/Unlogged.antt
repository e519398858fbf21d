-- What a console keeps beside its log.
use Rattle.std.specs.Prelude.{◌≡◌, ℕ}
use Rattle.esx_types.specs.Ranges.{IsConfig}
use Rattle.esx_model.specs.Console.{Session, history}
use Rattle.esx_journal.specs.Journal as journals
use Rattle.esx_journal.specs.Journal.{Holds}

-- a journal, and how many moves of its cursor were accepted
pub record Kept : Type 0 where
  pub journal : journals.Kept
  pub jumps : ℕ

-- they are those that a session leads to, so that the next call is answered as it is there
pub record AnswersAs (kept : Kept) (s : Session) : Type 0 where
  pub config : IsConfig s.site
  pub journal_holds : Holds kept.journal (history s)
  pub jumps_are : kept.jumps ≡ (history s).jumps

-- there is such a session
abbrev pub Answers : Kept → Type 0
Answers kept = (s : Session) × AnswersAs kept s
