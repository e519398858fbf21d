-- What is written where a session is gone through again.
use Rattle.std.specs.Prelude.{ℕ, List, [], ◌≡◌, ◌⊎◌, ◌+◌, Option, Result, Ok, Err}
use Rattle.std.specs.Io.KnownBytes.{Appends}
use Rattle.esx_types.specs.declared.config.Config.{Config}
use Rattle.esx_types.specs.declared.ends.SinkFailed.{SinkFailed}
use Rattle.esx_writing.specs.Writing.{WritesFront}
use Rattle.esx_session.specs.declared.session.Entry.{Entry}
use Rattle.esx_session.specs.Sessions.{session_text}
use Rattle.esx_text.specs.States.{SinkState}
use Rattle.esx_check.specs.declared.check.Checked.{Checked}
use Rattle.esx_check.specs.declared.check.Checked.TheVariants.{Same, Differs}
use Rattle.esx_check.specs.declared.fault.OutputFault.{OutputFault}
use Rattle.esx_check.specs.declared.fault.OutputFault.TheVariants as output
use Rattle.esx_check.specs.Checks.{Checks, checked_text}
use Rattle.esx_check.specs.Replays.{ReplayStops, replay_text}

-- a text was written, nothing failed, and after one flush nothing waits
pub record IsTold (text : List ℕ) (out out' : SinkState) : Type 0 where
  pub told : Appends out.contents out'.contents text
  pub failures : out'.failures ≡ out.failures
  pub flushes : out'.flushes ≡ out.flushes + 1
  pub sent : out'.waiting ≡ []

-- after a fault of writing a front of a text was written, and nothing where memory ran out
abbrev pub TellingStops : OutputFault → List ℕ → Option (List ℕ) → Option (List ℕ) → Type 0
TellingStops output.Write text old new = WritesFront old new text
TellingStops output.OutOfMemory text old new = Appends old new []

-- how many calls of the sink fail with a fault
abbrev pub failed_writes : OutputFault → ℕ
failed_writes output.Write = 1
failed_writes output.OutOfMemory = 0

-- it was not written, or not all of it, or it could not be handed on
pub record IsNotTold (e : OutputFault) (text : List ℕ) (out out' : SinkState) : Type 0 where
  pub stops : TellingStops e text out.contents out'.contents
  pub failures : out'.failures ≡ out.failures + failed_writes e
  pub flushes : out'.flushes + failed_writes e ≡ out.flushes + 1
  pub sent : (e ≡ output.Write → ⊥) → out'.waiting ≡ []

-- all that was taken came out, or after a fault of writing a front of it
abbrev pub GivenOut : OutputFault → Option (List ℕ) → Option (List ℕ) → Type 0
GivenOut output.Write taken out = (rest : List ℕ) × Appends out taken rest
GivenOut output.OutOfMemory taken out = taken ≡ out

-- the replies of a session and the table were written, nothing failed, and after one flush nothing waits
pub record IsReplayed (site : Config) (entries : List Entry) (out out' : SinkState) : Type 0 where
  pub told : Appends out.contents out'.contents (replay_text site entries)
  pub failures : out'.failures ≡ out.failures
  pub flushes : out'.flushes ≡ out.flushes + 1
  pub sent : out'.waiting ≡ []

-- a replay stopped, or there was no memory to begin it, and nothing was written
abbrev pub ReplayEnds : OutputFault → Config → List Entry → Option (List ℕ) → Option (List ℕ) → Type 0
ReplayEnds e site entries old new = ReplayStops e site entries old new ⊎ ((e ≡ output.OutOfMemory) × Appends old new [])

-- they were not written, or not all of them, or they could not be handed on
pub record IsNotReplayed (e : OutputFault) (site : Config) (entries : List Entry) (out out' : SinkState) : Type 0 where
  pub taken : Option (List ℕ)
  pub ends : ReplayEnds e site entries out.contents taken
  pub given : GivenOut e taken out'.contents
  pub failures : out'.failures ≡ out.failures + failed_writes e
  pub flushes : out'.flushes + failed_writes e ≡ out.flushes + 1
  pub sent : (e ≡ output.Write → ⊥) → out'.waiting ≡ []

-- what a migration writes: the session in version 2, or the line of the first call with another reply
abbrev pub migrated_text : Config → List Entry → Checked → List ℕ
migrated_text site entries (Same count) = session_text site entries
migrated_text site entries (Differs number) = checked_text (Differs number)

-- a session that was checked and what was written of it, as the end of its migration
abbrev pub migrated_as : Result (Unit {0}) SinkFailed → Checked → Result Checked OutputFault
migrated_as (Ok v) checked = Ok checked
migrated_as (Err e) checked = Err output.Write

-- the session was checked, what its migration writes was written, nothing failed, and after one flush nothing waits
pub record IsMigrated (site : Config) (entries : List Entry) (checked : Checked) (out out' : SinkState) : Type 0 where
  pub checks : Checks site entries checked
  pub told : Appends out.contents out'.contents (migrated_text site entries checked)
  pub failures : out'.failures ≡ out.failures
  pub flushes : out'.flushes ≡ out.flushes + 1
  pub sent : out'.waiting ≡ []

-- after a fault of writing a front of it was written, or nothing, and nothing where memory ran out
abbrev pub MigrationEnds : OutputFault → Config → List Entry → Option (List ℕ) → Option (List ℕ) → Type 0
MigrationEnds output.Write site entries old new = Appends old new [] ⊎ ((checked : Checked) × Checks site entries checked × WritesFront old new (migrated_text site entries checked))
MigrationEnds output.OutOfMemory site entries old new = Appends old new []

-- it was not written, or not all of it, or it could not be handed on
pub record IsNotMigrated (e : OutputFault) (site : Config) (entries : List Entry) (out out' : SinkState) : Type 0 where
  pub taken : Option (List ℕ)
  pub ends : MigrationEnds e site entries out.contents taken
  pub given : GivenOut e taken out'.contents
  pub failures : out'.failures ≡ out.failures + failed_writes e
  pub flushes : out'.flushes + failed_writes e ≡ out.flushes + 1
  pub sent : (e ≡ output.Write → ⊥) → out'.waiting ≡ []

-- 1 at a difference
abbrev pub check_status : Checked → ℕ
check_status (Same count) = 0
check_status (Differs number) = 1
