-- How the page that an event is about moved, by its answer and by where the page that it names was before.
use Rattle.std.specs.Prelude.{◌≡◌, ℕ, nat_lt, Option, Some, None, if◌then◌else◌, Result, Ok}
use Rattle.esx_types.specs.declared.config.Config.{Config}
use Rattle.esx_events.specs.declared.event.Event.{Event}
use Rattle.esx_events.specs.declared.event.Event.TheVariants.{Scan, SwapOut, Write}
use Rattle.esx_events.specs.declared.event.Answer.{Answer}
use Rattle.esx_events.specs.declared.event.Answer.TheVariants as answers
use Rattle.esx_events.specs.declared.event.Scanned.TheVariants as scanned
use Rattle.esx_events.specs.declared.event.Refusal.{Refusal}
use Rattle.esx_events.specs.declared.call.PageState.{PageState}
use Rattle.esx_events.specs.declared.call.PageState.TheVariants as states
use Rattle.esx_model.specs.Show.{shown}
use Rattle.esx_story.specs.declared.change.How.TheVariants.{Share, Host, Cow, Own}
use Rattle.esx_story.specs.declared.change.Change.{Change}
use Rattle.esx_story.specs.Changes.{change}
use Rattle.esx_story.specs.Hows.{IsAcceptedMoment}
use Rattle.esx_story.specs.Moments.{Moment}
use Rattle.esx_story.specs.Spots.{changed}
use Rattle.esx_story.specs.Readings.{named_page, said_before}
use Rattle.esx_sums.specs.Moving.{moved_at, host_page}

-- a page that is written where others are in its frame is copied; where none is any more, the frame is its own
abbrev pub written_from : ℕ → ℕ → Result PageState Refusal → Option Change
written_from n page (Ok (states.Shared frame count)) = Some (change n page (if nat_lt 1 count then Cow else Own))
written_from n page _ = None

-- what is shared is told by the answer
abbrev pub moved_by : Event → Answer → Result PageState Refusal → Option Change
moved_by (Scan n page) (answers.Looked (scanned.Shared frame count)) before = Some (change n page Share)
moved_by (SwapOut n word) (answers.SharedOut page frame) before = Some (change n page Share)
moved_by (Write n page at new) answer before = written_from n page before
moved_by _ _ before = None

-- it is enough to tell how that page moved in an accepted event
abbrev pub IsMoveTold : Type 0
IsMoveTold = (c : Config) (x : Moment) → IsAcceptedMoment c x → moved_at x ≡ moved_by x.event x.answer (said_before (shown c x.before) (named_page x.event))

-- a page in whose frame another came changed its place so
abbrev pub IsHostHow : Type 0
IsHostHow = (c : Config) (x : Moment) (m q : ℕ) → IsAcceptedMoment c x → host_page x ≡ Some (m, q) → changed x m q ≡ Some Host
