-- What is answered to a question about a path, or why nothing is.
use Rattle.std.specs.Prelude.{◌≡◌, ◌<◌, ◌≤◌, ℕ, List, filter, Option, Some, None}
use Rattle.std.specs.Option.{ForSome}
use Rattle.esx_types.specs.declared.config.Config.{Config}
use Rattle.esx_events.specs.declared.event.Refusal.{Refusal}
use Rattle.esx_events.specs.declared.event.Refusal.TheVariants.{NoVm, OutOfRange}
use Rattle.esx_session.specs.declared.session.Entry.{Entry}
use Rattle.esx_paths.specs.declared.path.Path.{Path}
use Rattle.esx_report.specs.declared.told.Told.{Told}
use Rattle.esx_report.specs.Changes.{changes_csv}
use Rattle.esx_report.specs.Guests.{guests_csv}
use Rattle.esx_report.specs.Losses.{losses_csv, AreGoodLines}
use Rattle.esx_report.specs.Report.{report_text}
use Rattle.esx_report.specs.SiteTable.{site_csv}
use Rattle.esx_report.specs.Steps.{steps_csv}
use Rattle.esx_report.specs.Why.{why_all, AreGoodWhys}
use Rattle.esx_account.specs.declared.account.Account.{Account}
use Rattle.esx_account.specs.Account.{IsAccountOf}
use Rattle.esx_account.specs.Choosing.{is_asked}
use Rattle.esx_account.specs.Coursing.{AreChangesTo}
use Rattle.esx_account.specs.Pages.{most_pages}
use Rattle.esx_account.specs.Surveying.{events_to}
use Rattle.esx_account.specs.Watching.{steps_to}
use Rattle.esx_reports.specs.declared.answer.Answer.{Answer}
use Rattle.esx_reports.specs.declared.answer.Answer.TheVariants as answers
use Rattle.esx_reports.specs.declared.question.Table.TheVariants.{Losses, Guests, Site}
use Rattle.esx_reports.specs.declared.question.What.{What}
use Rattle.esx_reports.specs.declared.question.What.TheVariants as whats
use Rattle.esx_reports.specs.declared.fault.ReportFault.{ReportFault}
use Rattle.esx_reports.specs.declared.fault.ReportFault.TheVariants.{Refused}
use Rattle.esx_reports.specs.Paths.{no_memory}
use Rattle.esx_reports.specs.Reasons.{AreWhysOf}

-- Which page of which machine can be meant.

-- the machine was admitted on the path, and the page that is named, if one is, was below the greatest memory that it was admitted with
pub record AreMeant (site : Config) (entries : List Entry) (way : Path) (vm : ℕ) (page : Option ℕ) : Type 0 where
  pub most : ℕ
  pub admitted : most_pages vm (events_to site entries way) ≡ Some most
  pub within : ForSome page (λ p. p < most)

-- it was not, or the page was not
abbrev pub LacksPage : Config → List Entry → Path → ℕ → Option ℕ → Refusal → Type 0
LacksPage site entries way vm page NoVm = most_pages vm (events_to site entries way) ≡ None
LacksPage site entries way vm page OutOfRange = (most named : ℕ) × (most_pages vm (events_to site entries way) ≡ Some most) × (page ≡ Some named) × (most ≤ named)
LacksPage site entries way vm page _ = ⊥

-- Answers that can be written.

-- what a report is told of an account
pub record IsToldOf (a : Account) (t : Told) : Type 0 where
  pub opened : t.opened ≡ a.opened
  pub path : t.path ≡ a.path
  pub levels : t.levels ≡ a.levels
  pub site : t.site ≡ a.site
  pub refusals : t.refusals.now ≡ a.refusals
  pub guests : t.guests.now ≡ a.guests
  pub by_level : t.by_level ≡ a.by_level
  pub losses : t.losses.now ≡ a.losses

-- the text of an answer
abbrev pub IsTextOf : Answer → List ℕ → Type 0
IsTextOf (answers.Report a) text = (t : Told) × IsToldOf a t × (text ≡ report_text t)
IsTextOf (answers.Table a Losses) text = text ≡ losses_csv a.losses
IsTextOf (answers.Table a Guests) text = text ≡ guests_csv a.guests
IsTextOf (answers.Table a Site) text = (t : Told) × IsToldOf a t × (text ≡ site_csv t)
IsTextOf (answers.Why whys) text = text ≡ why_all whys.items
IsTextOf (answers.Changes lines) text = text ≡ changes_csv lines.items
IsTextOf (answers.Steps rows) text = text ≡ steps_csv rows.items

-- the rows that are told in it are in their ranges
abbrev pub IsGood : Answer → Type 0
IsGood (answers.Report a) = AreGoodLines a.losses
IsGood (answers.Table a table) = AreGoodLines a.losses
IsGood (answers.Why whys) = AreGoodWhys whys.items
IsGood (answers.Changes lines) = Unit {0}
IsGood (answers.Steps rows) = Unit {0}

-- it is the answer about the path to a node of a session
abbrev pub IsAnswerTo : What → Config → List Entry → Path → Answer → Type 0
IsAnswerTo whats.Report site entries way (answers.Report a) = IsAccountOf site entries way a
IsAnswerTo (whats.Table table) site entries way (answers.Table a told) = IsAccountOf site entries way a × (told ≡ table)
IsAnswerTo (whats.Why vm page) site entries way (answers.Why whys) =
    AreMeant site entries way vm page × ((a : Account) × IsAccountOf site entries way a × AreWhysOf a.opened a.script.requests (filter (is_asked vm page) a.losses) whys.items)
IsAnswerTo whats.Changes site entries way (answers.Changes lines) = AreChangesTo site entries way lines.items
IsAnswerTo whats.Steps site entries way (answers.Steps rows) = rows.items ≡ steps_to site entries way
IsAnswerTo what site entries way _ = ⊥

-- why there is none
abbrev pub HasNoAnswer : What → Config → List Entry → Path → ReportFault → Type 0
HasNoAnswer (whats.Why vm page) site entries way (Refused refusal) = LacksPage site entries way vm page refusal
HasNoAnswer what site entries way e = e ≡ no_memory
