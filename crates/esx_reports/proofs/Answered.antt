-- An answer about a path is one about the session of a text.
use Rattle.std.proofs.Common.{inr, Result, Ok, Err, List}
use Rattle.std.specs.Result.{IfOk, IfErr}
use Rattle.std.specs.Prelude.{ℕ}
use Rattle.esx_account.specs.Texts.{IsPathIn}
use Rattle.esx_paths.specs.declared.path.Path.{Path}
use Rattle.esx_reports.specs.declared.answer.Answer.{Answer}
use Rattle.esx_reports.specs.declared.fault.ReportFault.{ReportFault}
use Rattle.esx_reports.specs.declared.question.Question.{Question}
use Rattle.esx_reports.specs.Answers.{IsAnswerTo, HasNoAnswer}
use Rattle.esx_reports.specs.Paths.{IsPathMeant}
use Rattle.esx_reports.specs.Telling.{IsAnswerOf, IsUnanswered}

module _ (bytes : List ℕ) (q : Question) (way : Path) (meant : IsPathMeant bytes q.at way) where
  pub path_in : IsPathIn bytes meant.site meant.entries way
  path_in = record { reads = meant.true.reads; path = meant.path.1 }

  pub answered : (r : Result Answer ReportFault) → IfOk r (IsAnswerTo q.what meant.site meant.entries way) → IfOk r (IsAnswerOf bytes q)
  answered (Ok answer) h = record { way = way; meant = meant; answers = h }
  answered (Err e) h = tt

  pub unanswered : (r : Result Answer ReportFault) → IfErr r (HasNoAnswer q.what meant.site meant.entries way) → IfErr r (IsUnanswered bytes q)
  unanswered (Ok answer) h = tt
  unanswered (Err e) h = inr (record { way = way; meant = meant; none = h })
