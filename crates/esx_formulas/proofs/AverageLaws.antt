-- The averages, period by period.
use Rattle.std.proofs.Common.{◌≡◌, ℕ, ◌+◌, ◌<◌, List, [], ◌∷◌, ◌++◌, length, get_or, take, refl}
use Rattle.std.proofs.lemmas.List.Sums.{fold_push, fold_more}
use Rattle.esx_formulas.specs.declared.activity.Estimate.{Estimate}
use Rattle.esx_formulas.specs.declared.activity.TheConstants.{WHOLE}
use Rattle.esx_formulas.specs.Average.{touched_share, slower, faster, slow_average, fast_average}

pub slow_of_none : slow_average [] ≡ WHOLE
unfolding slow_average
slow_of_none = refl

pub fast_of_none : fast_average [] ≡ WHOLE
unfolding fast_average
fast_of_none = refl

pub slow_average_push : (closed : List Estimate) (e : Estimate) →
    slow_average (closed ++ e ∷ []) ≡ slower (slow_average closed) (touched_share e)
unfolding slow_average
slow_average_push closed e = fold_push (λ slow x. slower slow (touched_share x)) WHOLE closed e

pub fast_average_push : (closed : List Estimate) (e : Estimate) →
    fast_average (closed ++ e ∷ []) ≡ faster (fast_average closed) (touched_share e)
unfolding fast_average
fast_average_push closed e = fold_push (λ fast x. faster fast (touched_share x)) WHOLE closed e

pub slow_average_more : (closed : List Estimate) (i : ℕ) (d : Estimate) → i < length closed →
    slow_average (take (i + 1) closed) ≡ slower (slow_average (take i closed)) (touched_share (get_or closed i d))
unfolding slow_average
slow_average_more closed i d p = fold_more (λ slow x. slower slow (touched_share x)) WHOLE closed i d p

pub fast_average_more : (closed : List Estimate) (i : ℕ) (d : Estimate) → i < length closed →
    fast_average (take (i + 1) closed) ≡ faster (fast_average (take i closed)) (touched_share (get_or closed i d))
unfolding fast_average
fast_average_more closed i d p = fold_more (λ fast x. faster fast (touched_share x)) WHOLE closed i d p
