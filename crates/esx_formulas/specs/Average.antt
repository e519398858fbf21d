-- Sampled activity (Waldspurger, "Measuring Idle Memory"): averages in units of 1/`WHOLE`, over the estimates of closed periods.
use Rattle.std.specs.Prelude.{ℕ, ◌+◌, ◌*◌, ◌/◌, max, Bool, ◌==◌, List, length, fold, count_by, Option, Some, None}
use Rattle.std.specs.List.{list_any}
use Rattle.esx_formulas.specs.declared.activity.Estimate.{Estimate}
use Rattle.esx_formulas.specs.declared.activity.Period.{Period}
use Rattle.esx_formulas.specs.declared.activity.TheConstants.{WHOLE}

-- the share of the sampled pages that were touched
abbrev pub touched_share : Estimate → ℕ
touched_share e = e.touched * WHOLE / e.pages

-- the slow average after one more estimate
abbrev pub slower : ℕ → ℕ → ℕ
slower slow x = (slow * 7 + x) / 8

-- the fast average after one more estimate
abbrev pub faster : ℕ → ℕ → ℕ
faster fast x = (fast + x) / 2

-- the averages over all closed periods, the oldest first; a new machine counts as fully active
unfoldable pub slow_average : List Estimate → ℕ
slow_average closed = fold (λ slow e. slower slow (touched_share e)) WHOLE closed

unfoldable pub fast_average : List Estimate → ℕ
fast_average closed = fold (λ fast e. faster fast (touched_share e)) WHOLE closed

-- was the page accessed in the period?
abbrev pub is_touched : Period → ℕ → Bool
is_touched p page = list_any (λ q. q == page) p.accessed

-- what an open period tells so far
abbrev pub so_far : Period → Estimate
so_far p = record { touched = count_by (is_touched p) p.pages; pages = length p.pages }

-- the third average: the fast one with the open period's estimate so far
abbrev pub open_average : ℕ → Option Estimate → ℕ
open_average fast None = fast
open_average fast (Some e) = faster fast (touched_share e)

-- the active share of a machine's memory: the greatest of the three averages
abbrev pub active_share : ℕ → ℕ → Option Estimate → ℕ
active_share slow fast now = max slow (max fast (open_average fast now))
