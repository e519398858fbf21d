-- What a recording leaves: the session of the commands at one place, and at another the lines of the answers that begin with a question mark.
use Rattle.std.specs.Prelude.{ℕ, List, [], ◌≡◌, ◌⊎◌, ◌+◌, Some, Ok, Err}
use Rattle.std.specs.Io.KnownBytes.{Appends}
use Rattle.esx_types.specs.declared.config.Config.{Config}
use Rattle.esx_model.specs.Console.{Session}
use Rattle.esx_console.specs.Calls.{opened_session}
use Rattle.esx_writing.specs.Writing.{WritesFront}
use Rattle.esx_text.specs.declared.fault.ServeFault.{ServeFault}
use Rattle.esx_text.specs.declared.fault.ServeFault.TheVariants.{Write}
use Rattle.esx_text.specs.Answers.{Answers, EndsEarly}
use Rattle.esx_text.specs.Own.{told_text}
use Rattle.esx_text.specs.States.{LeavesStreams, SinkState, SourceState}
use Rattle.esx_recording.specs.Questions.{question_lines}

-- The commands were made, so many lines, and of their answers the lines that begin with a question mark were told.
pub record Makes (site : Config) (count : ℕ) (after : Session) (unread left : SourceState) (errors errors' : SinkState) : Type 0 where
  pub answers : List ℕ
  pub served : Answers 0 count (opened_session site) after unread.remaining left.remaining (Some []) (Some answers)
  pub told : Appends errors.contents errors'.contents (question_lines answers)
  pub streams : LeavesStreams (Ok count) unread left errors errors'

-- The commands were made and their session was written, nothing failed, and after one flush nothing waits.
pub record Records (site : Config) (count : ℕ) (unread left : SourceState) (errors errors' out out' : SinkState) : Type 0 where
  pub after : Session
  pub made : Makes site count after unread left errors errors'
  pub session_told : Appends out.contents out'.contents (told_text after)
  pub failures : out'.failures ≡ out.failures
  pub flushes : out'.flushes ≡ out.flushes + 1
  pub sent : out'.waiting ≡ []

-- The commands ended early, and of the answers up to there the lines that begin with a question mark were told.
pub record EndsMaking (e : ServeFault) (site : Config) (unread left : SourceState) (errors errors' : SinkState) : Type 0 where
  pub after : Session
  pub answers : List ℕ
  pub ends : EndsEarly e 0 (opened_session site) after unread.remaining left.remaining unread.calls left.calls (Some []) (Some answers)
  pub told : Appends errors.contents errors'.contents (question_lines answers)
  pub streams : LeavesStreams (Err e) unread left errors errors'

-- All commands were made, one write of their session or the flush failed, and a front of it was written.
pub record StopsTelling (e : ServeFault) (site : Config) (unread left : SourceState) (errors errors' out out' : SinkState) : Type 0 where
  pub write : e ≡ Write
  pub count : ℕ
  pub after : Session
  pub made : Makes site count after unread left errors errors'
  pub front : WritesFront out.contents out'.contents (told_text after)
  pub failures : out'.failures ≡ out.failures + 1
  pub flushes : out'.flushes ≡ out.flushes

-- Where the commands ended early nothing is written of their session.
abbrev pub RecordStops : ServeFault → Config → SourceState → SourceState → SinkState → SinkState → SinkState → SinkState → Type 0
RecordStops e site unread left errors errors' out out' = (EndsMaking e site unread left errors errors' × (out' ≡ out)) ⊎ StopsTelling e site unread left errors errors' out out'
