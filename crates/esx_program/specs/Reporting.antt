-- What a question about the session in a file comes to.
use Rattle.std.specs.Prelude.{◌≡◌, ℕ, List, Result, Ok, Err}
use Rattle.esx_check.specs.declared.fault.OutputFault.TheVariants as output
use Rattle.esx_reading.specs.declared.fault.TextFault.TheVariants as text
use Rattle.esx_text.specs.States.{SinkState}
use Rattle.esx_reports.specs.declared.answer.Answer.{Answer}
use Rattle.esx_reports.specs.declared.fault.ReportFault.TheVariants as report
use Rattle.esx_reports.specs.declared.question.Question.{Question}
use Rattle.esx_reports.specs.Answers.{IsTextOf}
use Rattle.esx_reports.specs.Telling.{IsAnswerOf, IsUnanswered}
use Rattle.esx_program.specs.declared.Done.{Done}
use Rattle.esx_program.specs.declared.Done.TheVariants.{Answered}
use Rattle.esx_program.specs.declared.Failure.{Failure}
use Rattle.esx_program.specs.declared.Failure.TheVariants.{Text, Report}
use Rattle.esx_program.specs.Files.{Opened, HasLongText, LacksLongText}
use Rattle.esx_program.specs.Sessions.{IsTold, IsNotTold}

-- a text of an answer to the question about the session of a text
pub record IsAnswered (bytes : List ℕ) (q : Question) (text : List ℕ) : Type 0 where
  pub answer : Answer
  pub answers : IsAnswerOf bytes q answer
  pub told : IsTextOf answer text

-- the question was answered, and such a text was written
abbrev pub TellsAnswer : List ℕ → Question → Done → SinkState → SinkState → Type 0
TellsAnswer bytes q (Answered what) old new = (what ≡ q.what) × ((text : List ℕ) × IsAnswered bytes q text × IsTold text old new)
TellsAnswer bytes q _ old new = ⊥

-- The question has no answer, or memory ran out, and nothing was written. Or it has one, and a front of its text was written at most.
abbrev pub TellsNoAnswer : List ℕ → Question → Failure → SinkState → SinkState → Type 0
TellsNoAnswer bytes q (Report (report.Output output.Write)) old new = (text : List ℕ) × IsAnswered bytes q text × IsNotTold output.Write text old new
TellsNoAnswer bytes q (Report e) old new = IsUnanswered bytes q e × (new ≡ old)
TellsNoAnswer bytes q _ old new = ⊥

-- A question ends so that is asked about the session in a file. Or the file has no text, and nothing was written.
abbrev pub EndsReport : Opened → Question → Result Done Failure → SinkState → SinkState → Type 0
EndsReport read q (Ok (Answered what)) out out' = (bytes : List ℕ) × HasLongText read bytes × TellsAnswer bytes q (Answered what) out out'
EndsReport read q (Err (Text e)) out out' = LacksLongText read e × (out' ≡ out)
EndsReport read q (Err (Report e)) out out' = (bytes : List ℕ) × HasLongText read bytes × TellsNoAnswer bytes q (Report e) out out'
EndsReport read q ended out out' = ⊥
