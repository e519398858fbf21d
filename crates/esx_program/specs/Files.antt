-- Files as they were opened and read.
use Rattle.std.specs.Prelude.{◌≡◌, ◌⊎◌, ℕ, ◌+◌, ◌≤◌, List, length, Option, Some, None, Result, Ok, Err, IsUtf8}
use Rattle.std.specs.IoError.{error_kind}
use Rattle.std.specs.declared.io.Error.{Error}
use Rattle.esx_types.specs.declared.config.Config.{Config}
use Rattle.esx_reading.specs.declared.fault.TextFault.{TextFault}
use Rattle.esx_reading.specs.declared.fault.TextFault.TheVariants.{NotToml, BadKey, BadLine, NotText, Read, OutOfMemory}
use Rattle.esx_reading.specs.declared.whole.TheConstants.{MAX_FILE, MAX_SESSION, READS}
use Rattle.esx_reading.specs.Whole.{AskForPieces, GivesMoreThan, GivesOnWithin, GivesWithin}
use Rattle.esx_scenario.specs.Plans.{Plan}
use Rattle.esx_scenario.specs.Scenarios.{IsScenario, IsRefused as IsNoPlan}
use Rattle.esx_session.specs.declared.session.Entry.{Entry}
use Rattle.esx_session.specs.declared.session.Request.{Request}
use Rattle.esx_session.specs.Reading.{GoesPastOpening}
use Rattle.esx_session.specs.Sessions.{HasOpening, IsRefused, Reads, ReadsScript}
use Rattle.esx_text.specs.Answers.{ReadsOn}
use Rattle.esx_text.specs.States.{SourceState}
use Rattle.esx_program.specs.Given.{open_fault}
use Rattle.esx_program.specs.Words.{asked_of, manner_of, question_of}
use Rattle.esx_program.specs.declared.words.Asked.{Asked}

-- there were at most `READS` reads, of `CHUNK` bytes each
abbrev pub ReadsPieces : SourceState → SourceState → Type 0
ReadsPieces old new = (new.calls ≤ old.calls + READS) × AskForPieces old.calls new.calls old.asked new.asked

-- All bytes of a file of at most so many were read, and no read failed. There was at most one read more than bytes, and one alone found the end.
pub record IsReadWithin (most : ℕ) (old new : SourceState) (bytes : List ℕ) : Type 0 where
  pub given : GivesWithin most old.remaining new.remaining bytes
  pub failures : new.failures ≡ old.failures
  pub calls : new.calls ≤ old.calls + length bytes + 1
  pub found : new.empty_reads ≡ old.empty_reads + 1
  pub pieces : ReadsPieces old new

-- the same of bytes that are a text
abbrev pub IsTextReadWithin : ℕ → SourceState → SourceState → List ℕ → Type 0
IsTextReadWithin most old new text = IsReadWithin most old new text × IsUtf8 text

-- A read failed, or none of `READS` found the end, or there were more bytes than so many. No read found the end.
pub record FailsToReadWithin (most : ℕ) (old new : SourceState) : Type 0 where
  pub cause : (new.failures ≡ old.failures + 1)
      ⊎ ((new.failures ≡ old.failures) × ((new.calls ≡ old.calls + READS) ⊎ GivesMoreThan most old.remaining new.remaining))
  pub not_found : new.empty_reads ≡ old.empty_reads
  pub each : ReadsOn old.remaining new.remaining old.calls new.calls
  pub pieces : ReadsPieces old new

-- The reads that there were, if any, each gave some bytes: none failed, and none found the end.
pub record StopsBefore (most : ℕ) (old new : SourceState) : Type 0 where
  pub given : GivesOnWithin most old.remaining new.remaining old.calls new.calls
  pub failures : new.failures ≡ old.failures
  pub not_found : new.empty_reads ≡ old.empty_reads
  pub pieces : ReadsPieces old new

-- What a fault tells of a file: all its bytes were read and are no text, or reading failed, or memory ran out on the way.
abbrev pub IsNoTextWithin : ℕ → SourceState → SourceState → TextFault → Type 0
IsNoTextWithin most old new NotText = (bytes : List ℕ) × IsReadWithin most old new bytes × (IsUtf8 bytes → ⊥)
IsNoTextWithin most old new Read = FailsToReadWithin most old new
IsNoTextWithin most old new OutOfMemory = StopsBefore most old new
IsNoTextWithin most old new _ = ⊥

-- The same of as many bytes as a file may have.

abbrev pub IsRead : SourceState → SourceState → List ℕ → Type 0
IsRead old new bytes = IsReadWithin MAX_FILE old new bytes

abbrev pub IsTextRead : SourceState → SourceState → List ℕ → Type 0
IsTextRead old new text = IsTextReadWithin MAX_FILE old new text

abbrev pub FailsToRead : SourceState → SourceState → Type 0
FailsToRead old new = FailsToReadWithin MAX_FILE old new

abbrev pub StopsWithin : SourceState → SourceState → Type 0
StopsWithin old new = StopsBefore MAX_FILE old new

abbrev pub IsNoText : SourceState → SourceState → TextFault → Type 0
IsNoText old new e = IsNoTextWithin MAX_FILE old new e

-- The same, or its bytes are a text that is refused so, where a scenario is wanted. Memory may also run out over a text.
abbrev pub IsNoScenario : SourceState → SourceState → TextFault → Type 0
IsNoScenario old new NotToml = (text : List ℕ) × IsTextRead old new text × IsNoPlan text NotToml
IsNoScenario old new (BadKey path) = (text : List ℕ) × IsTextRead old new text × IsNoPlan text (BadKey path)
IsNoScenario old new OutOfMemory = StopsWithin old new ⊎ ((text : List ℕ) × IsTextRead old new text)
IsNoScenario old new e = IsNoText old new e

-- The same, where a session is wanted. Memory may also run out over a text whose first two lines are those of a session, where what stands behind them may take memory.
abbrev pub IsNoSession : SourceState → SourceState → TextFault → Type 0
IsNoSession old new (BadLine n) = (text : List ℕ) × IsTextRead old new text × IsRefused (BadLine n) text
IsNoSession old new OutOfMemory = StopsWithin old new ⊎ ((text : List ℕ) × IsTextRead old new text × GoesPastOpening text)
IsNoSession old new e = IsNoText old new e

-- The same, where a session is checked. Memory may also run out over a text whose first two lines are those of a session: they open a console.
abbrev pub IsNoCheck : SourceState → SourceState → TextFault → Type 0
IsNoCheck old new (BadLine n) = (text : List ℕ) × IsTextRead old new text × IsRefused (BadLine n) text
IsNoCheck old new OutOfMemory = StopsWithin old new ⊎ ((text : List ℕ) × IsTextRead old new text × HasOpening text)
IsNoCheck old new e = IsNoText old new e

-- a file as it was opened and as it was left, or why it was not opened
abbrev pub Opened : Type 0
Opened = Result (SourceState × SourceState) Error

-- it is this file, of which so much is known, and the same file as it was left
abbrev pub IsLeft : {F : Type 0} → (F → SourceState) → Result F Error → Result F Error → Opened → Type 0
IsLeft state (Ok file) (Ok left) (Ok states) = (states.0 ≡ state file) × (states.1 ≡ state left)
IsLeft state (Err e) (Err d) (Err b) = (d ≡ e) × (b ≡ e)
IsLeft state opened left read = ⊥

-- the same where a file may be named
abbrev pub MayBeLeft : {F : Type 0} → (F → SourceState) → Option (Result F Error) → Option (Result F Error) → Option Opened → Type 0
MayBeLeft state None None None = Unit {0}
MayBeLeft state (Some opened) (Some left) (Some read) = IsLeft state opened left read
MayBeLeft state opened left read = ⊥

-- the same of what is asked for
pub record AreLeft {F : Type 0} (state : F → SourceState) (wanted left : Asked (Result F Error)) (read : Asked Opened) : Type 0 where
  pub word : ((asked_of left).0 ≡ (asked_of wanted).0) × ((asked_of read).0 ≡ (asked_of wanted).0)
  pub file : MayBeLeft state (asked_of wanted).1 (asked_of left).1 (asked_of read).1
  pub question : question_of read ≡ question_of wanted
  pub manner : manner_of read ≡ manner_of wanted

-- it is this file, whose bytes alone are known
abbrev pub IsFile : {F : Type 0} → (F → Option (List ℕ)) → Result F Error → Opened → Type 0
IsFile remaining (Ok file) (Ok states) = states.0.remaining ≡ remaining file
IsFile remaining (Err e) (Err d) = d ≡ e
IsFile remaining opened read = ⊥

-- the same file, as another source of its bytes
abbrev pub IsSame : {F G : Type 0} → (F → Option (List ℕ)) → (G → Option (List ℕ)) → Result F Error → Result G Error → Type 0
IsSame remaining given (Ok file) (Ok source) = given source ≡ remaining file
IsSame remaining given (Err e) (Err d) = d ≡ e
IsSame remaining given opened other = ⊥

-- the file has this text, and was read to its end
abbrev pub HasText : Opened → List ℕ → Type 0
HasText (Ok states) text = IsTextRead states.0 states.1 text
HasText (Err e) text = ⊥

-- the same of a text of as many bytes as a session may have of which a report is made
abbrev pub HasLongText : Opened → List ℕ → Type 0
HasLongText (Ok states) text = IsTextReadWithin MAX_SESSION states.0 states.1 text
HasLongText (Err e) text = ⊥

-- its text is that scenario
abbrev pub HasScenario : Opened → Plan → Type 0
HasScenario read plan = (text : List ℕ) × HasText read text × IsScenario text plan

-- its text is that session
abbrev pub HasSession : Opened → Config → List Entry → Type 0
HasSession read site entries = (text : List ℕ) × HasText read text × Reads text site entries

-- its text is that of a session with these calls
abbrev pub HasScript : Opened → Config → List Request → Type 0
HasScript read site requests = (text : List ℕ) × HasText read text × ReadsScript text site requests

-- Why none of these was read: the file could not be opened, or it is none.
abbrev pub LacksText : Opened → TextFault → Type 0
LacksText (Ok states) e = IsNoText states.0 states.1 e
LacksText (Err error) e = e ≡ open_fault (error_kind error)

abbrev pub LacksLongText : Opened → TextFault → Type 0
LacksLongText (Ok states) e = IsNoTextWithin MAX_SESSION states.0 states.1 e
LacksLongText (Err error) e = e ≡ open_fault (error_kind error)

abbrev pub LacksScenario : Opened → TextFault → Type 0
LacksScenario (Ok states) e = IsNoScenario states.0 states.1 e
LacksScenario (Err error) e = e ≡ open_fault (error_kind error)

abbrev pub LacksSession : Opened → TextFault → Type 0
LacksSession (Ok states) e = IsNoSession states.0 states.1 e
LacksSession (Err error) e = e ≡ open_fault (error_kind error)

abbrev pub LacksCheck : Opened → TextFault → Type 0
LacksCheck (Ok states) e = IsNoCheck states.0 states.1 e
LacksCheck (Err error) e = e ≡ open_fault (error_kind error)
