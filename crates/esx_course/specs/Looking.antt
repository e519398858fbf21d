-- Where the pages are that an event may move, as they are read, and what it moved by that.
use Rattle.std.specs.Prelude.{ℕ, List, slice_index_or, slice_set, Option, Some, None}
use Rattle.esx_events.specs.declared.event.Event.{Event}
use Rattle.esx_events.specs.declared.event.Answer.{Answer}
use Rattle.esx_model.specs.declared.book.Book.{Book}
use Rattle.esx_model.specs.Readings.{page_state}
use Rattle.esx_story.specs.declared.change.Spot.{Spot}
use Rattle.esx_story.specs.declared.change.Spot.TheVariants as spots
use Rattle.esx_passages.specs.declared.passage.Pages.{Pages}
use Rattle.esx_passages.specs.declared.passage.Passages.{Passages}
use Rattle.esx_passages.specs.Passages.{movers, passage_by}
use Rattle.esx_passages.specs.Readings.{told_spot, new_epoch}
use Rattle.esx_course.specs.declared.looking.Spots.{Spots}

-- where a page is by a book, if one is meant, where its machine is in the epoch that is kept of it
abbrev pub spot_in : Book → List ℕ → Option (ℕ × ℕ) → Spot
spot_in b epochs None = spots.Untouched
spot_in b epochs (Some p) = told_spot (slice_index_or epochs p.0 0) (page_state b p.0 p.1)

abbrev pub spots_in : Book → List ℕ → Pages → Spots
spots_in b epochs pages = record { first = spot_in b epochs pages.first; second = spot_in b epochs pages.second }

-- what an event moved of these pages, from there and to there
abbrev pub passed_by : Event → Answer → Pages → Spots → Spots → Passages
passed_by e answer pages from to = record { first = passage_by e answer pages.first from.first to.first; second = passage_by e answer pages.second from.second to.second }

-- the epochs where one machine has another
abbrev pub with_epoch : List ℕ → Option (ℕ × ℕ) → List ℕ
with_epoch epochs None = epochs
with_epoch epochs (Some p) = slice_set epochs p.0 p.1

-- what an event moved between two books
abbrev pub passed_from : Event → Answer → Option (ℕ × ℕ) → Book → Book → List ℕ → Passages
passed_from e answer found before after epochs =
    passed_by e answer (movers e answer found) (spots_in before epochs (movers e answer found)) (spots_in after (with_epoch epochs (new_epoch e answer)) (movers e answer found))
