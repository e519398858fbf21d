-- How the program ends.
use Rattle.std.specs.Prelude.{◌≡◌, ℕ, List, Option, Some, None, Result, Ok, Err, codes}
use Rattle.esx_reading.specs.declared.fault.TextFault.{TextFault}
use Rattle.esx_reading.specs.declared.fault.TextFault.TheVariants as text
use Rattle.esx_text.specs.declared.fault.ServeFault.TheVariants.{Read, Write, OutOfMemory}
use Rattle.esx_text.specs.States.{SinkState}
use Rattle.esx_session.specs.Sessions.{HasOpening, IsRefused}
use Rattle.esx_check.specs.Checks.{ChecksText, checked_text}
use Rattle.esx_check.specs.Differences.{ComparesText, checked_of, compared_text}
use Rattle.esx_check.specs.declared.check.Checked.{Checked as Outcome}
use Rattle.esx_check.specs.declared.difference.Compared.{Compared as Comparison}
use Rattle.esx_check.specs.declared.fault.OutputFault.TheVariants as output
use Rattle.esx_reports.specs.declared.fault.ReportFault.{ReportFault}
use Rattle.esx_reports.specs.declared.fault.ReportFault.TheVariants as report
use Rattle.esx_reports.specs.declared.question.What.{What}
use Rattle.esx_reports.specs.declared.question.What.TheVariants as whats
use Rattle.esx_program.specs.declared.running.RunFault.TheVariants as run
use Rattle.esx_program.specs.declared.words.WordsFault.{WordsFault}
use Rattle.esx_program.specs.declared.words.WordsFault.TheVariants as words
use Rattle.esx_program.specs.declared.Done.{Done}
use Rattle.esx_program.specs.declared.Done.TheVariants.{Served, Recorded, Ran, Replayed, Checked, Compared, Migrated, Answered, Helped}
use Rattle.esx_program.specs.declared.Failure.{Failure}
use Rattle.esx_program.specs.declared.Failure.TheVariants.{Words, Text, Serve, Output, Run, Report}
use Rattle.esx_program.specs.Sessions.{IsTold, IsNotTold, check_status}

-- where a question about a session has no answer
abbrev pub status_of_report : ReportFault → ℕ
status_of_report (report.Text text.OutOfMemory) = 3
status_of_report (report.Output output.OutOfMemory) = 3
status_of_report _ = 1

-- 1 where a file or an opening was refused, or a session differs, or it could not read or write; 2 where it was given wrong words; 3 where memory ran out
abbrev pub status_of : Failure → ℕ
status_of Words = 2
status_of (Text text.OutOfMemory) = 3
status_of (Text _) = 1
status_of (Serve Read) = 1
status_of (Serve Write) = 1
status_of (Serve OutOfMemory) = 3
status_of (Output output.Write) = 1
status_of (Output output.OutOfMemory) = 3
status_of (Run (run.Refused e)) = 1
status_of (Run (run.RefusedAt e machine)) = 1
status_of (Run run.Write) = 1
status_of (Run run.OutOfMemory) = 3
status_of (Report e) = status_of_report e

-- what a person at a terminal is told of it
abbrev pub advice_of : Failure → Option (List ℕ)
advice_of Words = Some (codes "esxplan help lists the words")
advice_of _ = None

-- after words that ask for nothing
abbrev pub status_of_words : WordsFault → ℕ
status_of_words words.Wrong = 2
status_of_words words.OutOfMemory = 3

-- the word that asks a question
abbrev pub word_of_what : What → List ℕ
word_of_what whats.Report = codes "report"
word_of_what (whats.Table table) = codes "report"
word_of_what whats.Changes = codes "report"
word_of_what whats.Steps = codes "report"
word_of_what (whats.Why vm page) = codes "why"

-- the word that asks for what was done
abbrev pub word_of_done : Done → List ℕ
word_of_done Served = codes "console"
word_of_done Recorded = codes "record"
word_of_done Ran = codes "run"
word_of_done Replayed = codes "replay"
word_of_done (Checked checked) = codes "check"
word_of_done (Compared checked) = codes "diff"
word_of_done (Migrated checked) = codes "migrate"
word_of_done (Answered what) = word_of_what what
word_of_done Helped = codes "help"

-- it is a check of that text, and the line of what it comes to was written
abbrev pub TellsCheck : List ℕ → Done → SinkState → SinkState → Type 0
TellsCheck bytes (Checked checked) old new = ChecksText bytes checked × IsTold (checked_text checked) old new
TellsCheck bytes _ old new = ⊥

-- why a text was not checked
abbrev pub IsNotChecked : List ℕ → TextFault → Type 0
IsNotChecked bytes text.OutOfMemory = HasOpening bytes
IsNotChecked bytes e = IsRefused e bytes

-- The text was refused so, and nothing was written. Or its check came to something, and at most a front of its line was written.
abbrev pub TellsNoCheck : List ℕ → Failure → SinkState → SinkState → Type 0
TellsNoCheck bytes (Text e) old new = IsNotChecked bytes e × (new ≡ old)
TellsNoCheck bytes (Output e) old new = (checked : Outcome) × ChecksText bytes checked × IsNotTold e (checked_text checked) old new
TellsNoCheck bytes _ old new = ⊥

-- the same with a difference whole
abbrev pub TellsDiff : List ℕ → Done → SinkState → SinkState → Type 0
TellsDiff bytes (Compared checked) old new = (c : Comparison) × ComparesText bytes c × (checked ≡ checked_of c) × IsTold (compared_text c) old new
TellsDiff bytes _ old new = ⊥

abbrev pub TellsNoDiff : List ℕ → Failure → SinkState → SinkState → Type 0
TellsNoDiff bytes (Text e) old new = IsNotChecked bytes e × (new ≡ old)
TellsNoDiff bytes (Output e) old new = (c : Comparison) × ComparesText bytes c × IsNotTold e (compared_text c) old new
TellsNoDiff bytes _ old new = ⊥

-- 0, but 1 where a session differs
abbrev pub status_of_done : Done → ℕ
status_of_done Served = 0
status_of_done Recorded = 0
status_of_done Ran = 0
status_of_done Replayed = 0
status_of_done (Checked checked) = check_status checked
status_of_done (Compared checked) = check_status checked
status_of_done (Migrated checked) = check_status checked
status_of_done (Answered what) = 0
status_of_done Helped = 0

-- well, or otherwise
abbrev pub status_of_end : Result Done Failure → ℕ
status_of_end (Ok done) = status_of_done done
status_of_end (Err failure) = status_of failure
