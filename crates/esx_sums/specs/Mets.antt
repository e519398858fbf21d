-- Refusals that were met on a path.
use Rattle.std.specs.Prelude.{ℕ, ◌==◌, Bool, true, false, List, take, count_by, ◌&&◌, Option, Some, None}
use Rattle.esx_events.specs.declared.event.Refusal.{Refusal}
use Rattle.esx_events.specs.declared.event.Refusal.TheVariants.{Held, Short}
use Rattle.esx_events.specs.Numbers.{refusal_number}
use Rattle.esx_story.specs.Moments.{Moment}
use Rattle.esx_story.specs.Waits.{Met}
use Rattle.esx_sums.specs.Lives.{lives}

abbrev pub is_held : Refusal → Bool
is_held Held = true
is_held _ = false

abbrev pub is_short : Refusal → Bool
is_short Short = true
is_short _ = false

-- an access of machine n
abbrev pub is_access_of : ℕ → Option (ℕ × ℕ) → Bool
is_access_of n None = false
is_access_of n (Some p) = p.0 == n

-- an access of machine n that was refused so in its life l
abbrev pub is_met_in : (Refusal → Bool) → ℕ → ℕ → List Moment → Met → Bool
is_met_in why n l ms m = (is_access_of n m.access && why m.refusal) && (lives n (take m.at ms) == l)

-- how many were
abbrev pub met_in : (Refusal → Bool) → ℕ → ℕ → List Moment → List Met → ℕ
met_in why n l ms mets = count_by (is_met_in why n l ms) mets

-- how many refusals have a number
abbrev pub refused_with : ℕ → List Met → ℕ
refused_with k mets = count_by (λ (m : Met). refusal_number m.refusal == k) mets
