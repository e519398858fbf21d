-- The changes of place of an event: which pages it may move, and how each passed from where it was to where it is.
use Rattle.std.specs.Prelude.{ℕ, ◌+◌, List, [], ◌∷◌, ◌++◌, Option, Some, None, option_map, if◌then◌else◌}
use Rattle.esx_events.specs.declared.event.Event.{Event}
use Rattle.esx_events.specs.declared.event.Event.TheVariants.{Read, Write, Lend, TakeBack, Scan, SwapOut, Replace, DropPage}
use Rattle.esx_events.specs.declared.event.Answer.{Answer}
use Rattle.esx_events.specs.declared.event.Answer.TheVariants as answers
use Rattle.esx_model.specs.declared.scene.Site.{Site}
use Rattle.esx_model.specs.event.Sharing.{found_by}
use Rattle.esx_model.specs.event.Paging.{compared}
use Rattle.esx_story.specs.declared.change.How.{How}
use Rattle.esx_story.specs.declared.change.Spot.{Spot}
use Rattle.esx_story.specs.declared.change.Spot.TheVariants as spots
use Rattle.esx_story.specs.Moments.{Moment}
use Rattle.esx_story.specs.Spots.{spot_of, how_of, ends_loans}
pub use Rattle.esx_passages.specs.declared.passage.Pages.{Pages}
pub use Rattle.esx_passages.specs.declared.passage.Passage.{Passage}
pub use Rattle.esx_passages.specs.declared.passage.Passages.{Passages}

abbrev pub no_pages : Pages
no_pages = record { first = None; second = None }

abbrev pub one_page : ℕ → ℕ → Pages
one_page n page = record { first = None; second = Some (n, page) }

-- the pages that an accepted event may move: the one that it names; one that makes room before the one that comes; and one in whose frame another comes before that other, which is the one that was found to be equal
abbrev pub movers : Event → Answer → Option (ℕ × ℕ) → Pages
movers (Read n page at len) answer found = one_page n page
movers (Write n page at new) answer found = one_page n page
movers (Lend n page) answer found = one_page n page
movers (TakeBack n page) answer found = one_page n page
movers (DropPage n page) answer found = one_page n page
movers (Scan n page) answer found = record { first = found; second = Some (n, page) }
movers (SwapOut n word) (answers.SharedOut page frame) found = record { first = found; second = Some (n, page) }
movers (SwapOut n word) (answers.PagedOut page slot) found = one_page n page
movers (Replace n page word) (answers.Replaced victim slot frame) found = record { first = Some (n, victim); second = Some (n, page) }
movers _ answer found = no_pages

-- how a page of machine n changed its place by an event
abbrev pub how_between : ℕ → Event → Answer → Spot → Spot → Option How
how_between n e answer from to = if ends_loans n e answer then None else how_of e from to

abbrev pub passage_by : Event → Answer → Option (ℕ × ℕ) → Spot → Spot → Option Passage
passage_by e answer None from to = None
passage_by e answer (Some p) from to = option_map (λ how. record { vm = p.0; page = p.1; how = how; from = from; to = to }) (how_between p.0 e answer from to)

-- where a page is, if one is meant
abbrev pub spot_at : Site → Option (ℕ × ℕ) → Spot
spot_at s None = spots.Untouched
spot_at s (Some p) = spot_of s p.0 p.1

-- how a page passed at a moment
abbrev pub passage_at : Moment → Option (ℕ × ℕ) → Option Passage
passage_at x page = passage_by x.event x.answer page (spot_at x.before.site page) (spot_at x.after.site page)

-- the pages that may move at a moment
abbrev pub movers_at : Moment → Pages
movers_at x = movers x.event x.answer (found_by x.before.site (compared x.before.site x.event))

-- what passed at a moment
abbrev pub passed_at : Moment → Passages
passed_at x = record { first = passage_at x (movers_at x).first; second = passage_at x (movers_at x).second }

abbrev pub before_rest : Option Passage → List Passage → List Passage
before_rest None rest = rest
before_rest (Some y) rest = y ∷ rest

-- in order
abbrev pub in_order : Passages → List Passage
in_order p = before_rest p.first (before_rest p.second [])

-- all passages of a moment, in order
abbrev pub passages : Moment → List Passage
passages x = in_order (passed_at x)

-- A passage of a path: at which event.
pub record Passing : Type 0 where
  pub at : ℕ
  pub passage : Passage

abbrev pub passing : ℕ → Passage → Passing
passing i y = record { at = i; passage = y }

abbrev pub passings_of : ℕ → List Passage → List Passing
passings_of i [] = []
passings_of i (y ∷ ys) = passing i y ∷ passings_of i ys

-- those of some moments, in order, the first of them being the i-th
abbrev pub passings_from : ℕ → List Moment → List Passing
passings_from i [] = []
passings_from i (x ∷ later) = passings_of i (passages x) ++ passings_from (i + 1) later

-- the passages of a path, in order
abbrev pub passings : List Moment → List Passing
passings ms = passings_from 1 ms
