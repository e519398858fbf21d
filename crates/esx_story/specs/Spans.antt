-- What stands about a loss on its path: when the page is back, and which targets were in force.
use Rattle.std.specs.Prelude.{ℕ, ◌+◌, ◌-◌, ◌==◌, Bool, true, false, List, [], ◌∷◌, take, drop, slice_get, option_map, Option, Some, None, if◌then◌else◌}
use Rattle.esx_events.specs.declared.event.Event.{Event}
use Rattle.esx_events.specs.declared.event.Event.TheVariants.{Gone, Rebalance}
use Rattle.esx_events.specs.declared.event.Answer.{Answer}
use Rattle.esx_events.specs.declared.event.Answer.TheVariants as answers
use Rattle.esx_story.specs.Changes.{How, Change, has_here}
use Rattle.esx_story.specs.Gains.{gained_at}
use Rattle.esx_story.specs.Moments.{Moment}
use Rattle.esx_story.specs.Counts.{admits}

-- the machine goes with its last overhead frame
abbrev pub is_last : ℕ → Event → Answer → Bool
is_last n (Gone m) answers.Gone = m == n
is_last n _ _ = false

-- the first of these events, of which the first is the i-th, after which the page is here, before its machine goes
abbrev pub back_from : ℕ → ℕ → ℕ → List Moment → Option ℕ
back_from n page i [] = None
back_from n page i (x ∷ later) =
    if has_here x.after.site n page then Some i
    else (if is_last n x.event x.answer then None else back_from n page (i + 1) later)

-- for a loss of the i-th event
abbrev pub back : List Moment → ℕ → ℕ → ℕ → Option ℕ
back ms i n page = back_from n page (i + 1) (drop i ms)

-- the one with which its machine goes before the page is here again
abbrev pub over_from : ℕ → ℕ → ℕ → List Moment → Option ℕ
over_from n page i [] = None
over_from n page i (x ∷ later) =
    if has_here x.after.site n page then None
    else (if is_last n x.event x.answer then Some i else over_from n page (i + 1) later)

abbrev pub over : List Moment → ℕ → ℕ → ℕ → Option ℕ
over ms i n page = over_from n page (i + 1) (drop i ms)

-- how many events later it is back
abbrev pub later_by : ℕ → Option ℕ → Option ℕ
later_by i o = option_map (λ j. j - i) o

-- and how it came
abbrev pub gained_how : Option Moment → Option How
gained_how None = None
gained_how (Some x) = option_map (λ (y : Change). y.how) (gained_at x)

abbrev pub came_by : List Moment → Option ℕ → Option How
came_by ms None = None
came_by ms (Some j) = gained_how (slice_get ms (j - 1))

abbrev pub came_as : List Moment → ℕ → ℕ → ℕ → Option How
came_as ms i n page = came_by ms (back ms i n page)

abbrev pub is_rebalance : Event → Bool
is_rebalance Rebalance = true
is_rebalance _ = false

-- the last rebalance in the present life of machine n
abbrev pub set_from : ℕ → ℕ → Option ℕ → List Moment → Option ℕ
set_from n i last [] = last
set_from n i last (x ∷ later) = set_from n (i + 1) (if admits n x.event then None else (if is_rebalance x.event then Some i else last)) later

-- by which the targets were set when the i-th event came
abbrev pub set_at : List Moment → ℕ → ℕ → Option ℕ
set_at ms i n = set_from n 1 None (take (i - 1) ms)
