-- How many pages a machine gained and lost since it was last admitted.
use Rattle.std.specs.Prelude.{ℕ, ◌+◌, ◌==◌, Bool, false, List, [], ◌∷◌, Option, Some, None, if◌then◌else◌}
use Rattle.esx_events.specs.declared.event.Event.{Event}
use Rattle.esx_events.specs.declared.event.Event.TheVariants.{Admit}
use Rattle.esx_story.specs.declared.change.Counts.{Counts}
use Rattle.esx_story.specs.Changes.{How, Balloon, Swap, Replaced, Dropped, First, Pop, SwapIn, Change}
use Rattle.esx_story.specs.Moments.{Moment}
use Rattle.esx_story.specs.Losses.{lost_at}
use Rattle.esx_story.specs.Gains.{gained_at}

abbrev pub no_counts : Counts
no_counts = record { first = 0; popped = 0; swapped_in = 0; balloon = 0; swapped_out = 0; replaced = 0; dropped = 0 }

-- what came, and what left
abbrev pub came_in : Counts → ℕ
came_in k = k.first + k.popped + k.swapped_in

abbrev pub lost_in : Counts → ℕ
lost_in k = k.balloon + k.swapped_out + k.replaced + k.dropped

abbrev pub with_change : Counts → How → Counts
with_change k First = record k { first = k.first + 1 }
with_change k Pop = record k { popped = k.popped + 1 }
with_change k SwapIn = record k { swapped_in = k.swapped_in + 1 }
with_change k Balloon = record k { balloon = k.balloon + 1 }
with_change k Swap = record k { swapped_out = k.swapped_out + 1 }
with_change k Replaced = record k { replaced = k.replaced + 1 }
with_change k Dropped = record k { dropped = k.dropped + 1 }
with_change k _ = k

-- a change counts for its machine
abbrev pub counted : ℕ → Option Change → Counts → Counts
counted n None k = k
counted n (Some x) k = if x.vm == n then with_change k x.how else k

abbrev pub admits : ℕ → Event → Bool
admits n (Admit m spec) = m == n
admits n _ = false

abbrev pub counts_after : ℕ → Moment → Counts → Counts
counts_after n x k = if admits n x.event then no_counts else counted n (lost_at x) (counted n (gained_at x) k)

abbrev pub counts_from : ℕ → List Moment → Counts → Counts
counts_from n [] k = k
counts_from n (x ∷ later) k = counts_from n later (counts_after n x k)

abbrev pub counts : ℕ → List Moment → Counts
counts n ms = counts_from n ms no_counts

-- the lives of a machine so far
abbrev pub life_from : ℕ → List Moment → ℕ → ℕ
life_from n [] k = k
life_from n (x ∷ later) k = life_from n later (if admits n x.event then k + 1 else k)
