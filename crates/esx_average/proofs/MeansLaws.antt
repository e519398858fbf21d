-- The averages of a path, period by period.
use Rattle.std.proofs.Common.{◌≡◌, ℕ, List, [], ◌∷◌, ◌++◌, refl, ap, sym}
use Rattle.esx_formulas.specs.declared.activity.Estimate.{Estimate}
use Rattle.esx_formulas.specs.declared.activity.TheConstants.{WHOLE}
use Rattle.esx_formulas.specs.Average.{touched_share, slower, faster, slow_average, fast_average}
use Rattle.esx_formulas.proofs.AverageLaws.{slow_average_push, fast_average_push}
use Rattle.esx_average.specs.Means.{Means, means_of}

same_means : (a b c d : ℕ) → a ≡ c → b ≡ d →
    let m : Means = record { slow = a; fast = b } in
    let n : Means = record { slow = c; fast = d } in m ≡ n
same_means a b c d p q = cc

pub means_of_none : let m : Means = record { slow = WHOLE; fast = WHOLE } in m ≡ means_of []
unfolding slow_average fast_average
means_of_none = refl

pub close-means_of : (slow fast share : ℕ) (closed : List Estimate) (e : Estimate) → share ≡ touched_share e →
    (let m : Means = record { slow = slow; fast = fast } in m ≡ means_of closed) →
    let m : Means = record { slow = slower slow share; fast = faster fast share } in m ≡ means_of (closed ++ e ∷ [])
close-means_of slow fast share closed e s h =
    let hs : slow ≡ slow_average closed = ap (λ (m : Means). m.slow) h in
    let hf : fast ≡ fast_average closed = ap (λ (m : Means). m.fast) h in
    same_means _ _ _ _
    (rw (hs, s) (sym (slow_average_push closed e)))
    (rw (hf, s) (sym (fast_average_push closed e)))
