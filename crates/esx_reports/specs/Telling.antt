-- What a question about a session is answered, and what of it is written.
use Rattle.std.specs.Prelude.{◌⊎◌, ◌≡◌, ℕ, List, Option, Result, Ok, Err}
use Rattle.esx_check.specs.declared.fault.OutputFault.{OutputFault}
use Rattle.esx_check.specs.declared.fault.OutputFault.TheVariants as output
use Rattle.esx_paths.specs.declared.path.Path.{Path}
use Rattle.esx_writing.specs.Writing.{WritesFront}
use Rattle.esx_reports.specs.declared.answer.Answer.{Answer}
use Rattle.esx_reports.specs.declared.fault.ReportFault.{ReportFault}
use Rattle.esx_reports.specs.declared.question.Question.{Question}
use Rattle.esx_reports.specs.Answers.{IsAnswerTo, IsTextOf, HasNoAnswer}
use Rattle.esx_reports.specs.Paths.{IsPathMeant, HasNoPath}

-- The text is that of a true session, and this is the answer about the node that is meant of it.
pub record IsAnswerOf (bytes : List ℕ) (q : Question) (answer : Answer) : Type 0 where
  pub way : Path
  pub meant : IsPathMeant bytes q.at way
  pub answers : IsAnswerTo q.what meant.site meant.entries way answer

-- there is a path, and no answer about it
pub record LacksAnswer (bytes : List ℕ) (q : Question) (e : ReportFault) : Type 0 where
  pub way : Path
  pub meant : IsPathMeant bytes q.at way
  pub none : HasNoAnswer q.what meant.site meant.entries way e

-- why there is none
abbrev pub IsUnanswered : List ℕ → Question → ReportFault → Type 0
IsUnanswered bytes q e = HasNoPath bytes q.at e ⊎ LacksAnswer bytes q e

-- after a fault of writing a front of the text of an answer was written, and nothing where memory ran out
abbrev pub StopsAnswer : OutputFault → Answer → Option (List ℕ) → Option (List ℕ) → Type 0
StopsAnswer output.Write answer old new = (text : List ℕ) × IsTextOf answer text × WritesFront old new text
StopsAnswer output.OutOfMemory answer old new = new ≡ old

-- one call of a writer failed at a fault of writing, and none elsewhere; it was flushed where all was written
abbrev pub failed_writes : Result (Unit {0}) OutputFault → ℕ
failed_writes (Err output.Write) = 1
failed_writes _ = 0

abbrev pub flushes_made : Result (Unit {0}) OutputFault → ℕ
flushes_made (Ok done) = 1
flushes_made _ = 0
