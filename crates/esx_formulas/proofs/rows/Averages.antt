-- Worked examples of sampled activity.
use Rattle.std.specs.Prelude.{◌≡◌, ℕ, List, [], ◌∷◌, Some, None}
use Rattle.std.proofs.Common.{refl}
use Rattle.esx_formulas.specs.declared.activity.Estimate.{Estimate}
use Rattle.esx_formulas.specs.declared.activity.Period.{Period}
use Rattle.esx_formulas.specs.Average.{slow_average, fast_average, active_share, so_far}

told : ℕ → ℕ → Estimate
told touched pages = record { touched = touched; pages = pages }

period : List ℕ → List ℕ → Period
period pages accessed = record { length = 9; pages = pages; accessed = accessed }

slow_of_one : slow_average (told 1 4 ∷ []) ≡ 59392
unfolding told slow_average
slow_of_one = refl

fast_of_one : fast_average (told 1 4 ∷ []) ≡ 40960
unfolding told fast_average
fast_of_one = refl

slow_of_two : slow_average (told 1 4 ∷ told 2 2 ∷ []) ≡ 60160
unfolding told slow_average
slow_of_two = refl

fast_of_two : fast_average (told 1 4 ∷ told 2 2 ∷ []) ≡ 53248
unfolding told fast_average
fast_of_two = refl

slow_of_five_idle : slow_average (told 0 1 ∷ told 0 1 ∷ told 0 1 ∷ told 0 1 ∷ told 0 1 ∷ []) ≡ 33614
unfolding told slow_average
slow_of_five_idle = refl

fast_of_five_idle : fast_average (told 0 1 ∷ told 0 1 ∷ told 0 1 ∷ told 0 1 ∷ told 0 1 ∷ []) ≡ 2048
unfolding told fast_average
fast_of_five_idle = refl

-- each number is rounded down
slow_rounded : slow_average (told 1 3 ∷ []) ≡ 60074
unfolding told slow_average
slow_rounded = refl

fast_rounded : fast_average (told 1 3 ∷ []) ≡ 43690
unfolding told fast_average
fast_rounded = refl

open_period_counts : active_share 33614 2048 (Some (told 1 1)) ≡ 33792
unfolding told
open_period_counts = refl

fast_is_greatest : active_share 10 1000 (Some (told 0 1)) ≡ 1000
unfolding told
fast_is_greatest = refl

none_is_open : active_share 33614 2048 None ≡ 33614
none_is_open = refl

-- a page counts as often as it was drawn, and once however often it was accessed
drawn_twice : so_far (period (0 ∷ 5 ∷ 5 ∷ 7 ∷ 8 ∷ []) (5 ∷ 9 ∷ 5 ∷ 5 ∷ [])) ≡ told 2 5
unfolding told period
drawn_twice = refl
