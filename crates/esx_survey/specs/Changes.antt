-- What an event changed, by its answer and by what was read before it.
use Rattle.std.specs.Prelude.{ℕ, Option, None, option_map, Result}
use Rattle.esx_events.specs.declared.event.Event.{Event}
use Rattle.esx_events.specs.declared.event.Event.TheVariants.{Scan, SwapOut}
use Rattle.esx_events.specs.declared.event.Answer.{Answer}
use Rattle.esx_events.specs.declared.event.Answer.TheVariants as answers
use Rattle.esx_events.specs.declared.event.Refusal.{Refusal}
use Rattle.esx_events.specs.declared.call.PageState.{PageState}
use Rattle.esx_story.specs.Readings.{lost_by, gained_from}
use Rattle.esx_sums.specs.declared.sums.Changes.{Changes}
use Rattle.esx_sums.specs.Telling.{moved_by}

-- the machine of the page in whose frame another came: of the one that was found to be equal, where the event shared a page
abbrev pub host_by : Event → Answer → Option (ℕ × ℕ) → Option ℕ
host_by (Scan n page) answer found = option_map (λ p. p.0) found
host_by (SwapOut n word) (answers.SharedOut page frame) found = option_map (λ p. p.0) found
host_by _ _ found = None

-- all that it changed, by where the page was that it names, and by the page that was found to be equal
abbrev pub changes_by : Event → Answer → Result PageState Refusal → Option (ℕ × ℕ) → Changes
changes_by e answer before found = record {
  lost = lost_by e answer before;
  gained = gained_from e before;
  moved = moved_by e answer before;
  host = host_by e answer found;
}
