-- With what the program may end after its words.
use Rattle.std.specs.Prelude.{◌≡◌, ◌⊎◌, List, Option, Some, None, Result, Ok, Err, IsSome, codes, false, map, string_bytes}
use Rattle.std.specs.IoError.{error_kind}
use Rattle.std.specs.Vec.Iter.{into_iter_items}
use Rattle.std.specs.declared.io.Error.{Error}
use Rattle.clap.specs.Words.{Text as Word, takes}
use Rattle.esx_reading.specs.declared.fault.TextFault.TheVariants as text
use Rattle.esx_events.specs.declared.event.Refusal.TheVariants.{NoVm, OutOfRange, NoSuchNode, NoSuchName}
use Rattle.esx_reports.specs.declared.fault.ReportFault.{ReportFault}
use Rattle.esx_reports.specs.declared.fault.ReportFault.TheVariants as report
use Rattle.esx_reports.specs.declared.question.Question.{Question}
use Rattle.esx_program.specs.declared.words.WordsFault.{WordsFault}
use Rattle.esx_program.specs.declared.words.WordsFault.TheVariants as words
use Rattle.esx_program.specs.declared.Done.{Done}
use Rattle.esx_program.specs.declared.Done.TheVariants.{Answered}
use Rattle.esx_program.specs.declared.Failure.{Failure}
use Rattle.esx_program.specs.declared.Failure.TheVariants.{Words, Text, Serve, Output, Run, Report}
use Rattle.esx_program.specs.Given.{Args, words_failure}
use Rattle.esx_program.specs.Status.{word_of_done}
use Rattle.esx_program.specs.Words.{HaveNoFault, InFull, asked_in, program_app}

-- a word that takes a scenario
abbrev pub WantsScenario : {A : Type 0} → Word × Option A → Type 0
WantsScenario asked = (asked.0 ≡ codes "console") ⊎ ((asked.0 ≡ codes "record") ⊎ (asked.0 ≡ codes "run"))

-- a word and a file that is a scenario
abbrev pub NamesScenario : {A : Type 0} → Word × Option A → Type 0
NamesScenario asked = IsSome asked.1 × WantsScenario asked

-- a word that wants a session
abbrev pub WantsSession : {A : Type 0} → Word × Option A → Type 0
WantsSession asked = (asked.0 ≡ codes "replay") ⊎ ((asked.0 ≡ codes "check") ⊎ ((asked.0 ≡ codes "diff") ⊎ (asked.0 ≡ codes "migrate")))

-- a word and a file that is a session
abbrev pub NamesSession : {A : Type 0} → Word × Option A → Type 0
NamesSession asked = IsSome asked.1 × WantsSession asked

-- a word whose text may fail to be written
abbrev pub WritesText : {A : Type 0} → Word × Option A → Type 0
WritesText asked = WantsSession asked ⊎ (asked.0 ≡ codes "help")

-- a word that asks a question about a session
abbrev pub AsksQuestion : {A : Type 0} → Word × Option A → Type 0
AsksQuestion asked = (asked.0 ≡ codes "report") ⊎ (asked.0 ≡ codes "why")

-- how a question may have no answer: the text is no session or not a true one, no such node is meant, and where it is asked why no such guest or page
abbrev pub LacksAnswer : Word → ReportFault → Type 0
LacksAnswer word (report.Text (text.BadLine n)) = Unit {0}
LacksAnswer word (report.Text text.OutOfMemory) = Unit {0}
LacksAnswer word (report.Differs number) = Unit {0}
LacksAnswer word (report.Refused NoSuchNode) = Unit {0}
LacksAnswer word (report.Refused NoSuchName) = Unit {0}
LacksAnswer word (report.Refused NoVm) = word ≡ codes "why"
LacksAnswer word (report.Refused OutOfRange) = word ≡ codes "why"
LacksAnswer word (report.Output e) = Unit {0}
LacksAnswer word _ = ⊥

-- how what is asked for may fail: at the file, if one is named, at the streams of a console or of a recording, in a run, at a question, or where something else is written
abbrev pub MayFail : {A : Type 0} → Word × Option A → Failure → Type 0
MayFail asked Words = ⊥
MayFail asked (Text text.NotToml) = NamesScenario asked
MayFail asked (Text (text.BadKey path)) = NamesScenario asked
MayFail asked (Text (text.BadLine n)) = NamesSession asked
MayFail asked (Text text.NotText) = IsSome asked.1
MayFail asked (Text (text.Differs k)) = ⊥
MayFail asked (Text text.Read) = IsSome asked.1
MayFail asked (Text text.Write) = ⊥
MayFail asked (Text text.OutOfMemory) = IsSome asked.1
MayFail asked (Serve e) = (asked.0 ≡ codes "console") ⊎ (asked.0 ≡ codes "record")
MayFail asked (Output e) = WritesText asked
MayFail asked (Run e) = asked.0 ≡ codes "run"
MayFail asked (Report e) = AsksQuestion asked × LacksAnswer asked.0 e

-- words that ask for nothing, as a failure
abbrev pub refused_as : WordsFault → Failure
refused_as words.Wrong = Words
refused_as words.OutOfMemory = Text text.OutOfMemory

-- The words ask for this, and say no more.
pub record Asks (words : List Word) (asked : InFull) : Type 0 where
  pub no_fault : HaveNoFault words
  pub asked_for : asked_in words ≡ Some asked

-- a question that was answered is the one that was asked
abbrev pub AnswersQuestion : Done → Option Question → Type 0
AnswersQuestion (Answered what) None = ⊥
AnswersQuestion (Answered what) (Some q) = what ≡ q.what
AnswersQuestion _ question = Unit {0}

-- what was done is what the words ask for
abbrev pub DoesAsked : List Word → Done → Type 0
DoesAsked words done = (asked : InFull) × Asks words asked × (asked.word ≡ word_of_done done) × AnswersQuestion done asked.question

-- Wrong words are refused. Memory may always run out. Any other failure is one of what the words ask for.
abbrev pub FailsAfter : List Word → Failure → Type 0
FailsAfter words Words = (takes program_app words ≡ false) ⊎ (asked_in words ≡ None)
FailsAfter words (Text text.OutOfMemory) = Unit {0}
FailsAfter words failure = (asked : InFull) × Asks words asked × MayFail (asked.word, asked.file) failure

-- how it ends with what it was given
abbrev pub EndsWith : Result Args Error → Result Done Failure → Type 0
EndsWith (Ok args) (Ok done) = DoesAsked (map string_bytes (into_iter_items args)) done
EndsWith (Ok args) (Err failure) = FailsAfter (map string_bytes (into_iter_items args)) failure
EndsWith (Err e) result = result ≡ Err (words_failure (error_kind e))

-- it ends so with whatever it was given
abbrev pub EndsAsGiven : Result Done Failure → Type 0
EndsAsGiven ended = (given : Result Args Error) × EndsWith given ended
