-- What a console keeps.
use Rattle.std.specs.Prelude.{◌≡◌, ℕ, ◌≤◌, length}
use Rattle.esx_types.specs.Ranges.{IsConfig}
use Rattle.esx_types.specs.declared.level.Level.{Level}
use Rattle.esx_model.specs.Readings.{gauge_of}
use Rattle.esx_model.specs.History.{book_at}
use Rattle.esx_model.specs.Console.{Session, history, IsLegal}
use Rattle.esx_journal.specs.Journal.{Kept, Holds}

-- its log is legal, its journal and its count of jumps are those that the log leads to
pub record IsConsole (s : Session) (journal : Kept) (jumps : ℕ) : Type 0 where
  pub config : IsConfig s.site
  pub legal : IsLegal s
  pub journal_holds : Holds journal (history s)
  pub jumps_are : jumps ≡ (history s).jumps
  pub jumps_few : jumps ≤ length s.log

-- the gauge of the tables after a session: the free frames and the level
abbrev pub session_gauge : Session → ℕ × Level
session_gauge s = ((gauge_of (book_at (history s))).free, (gauge_of (book_at (history s))).level)
