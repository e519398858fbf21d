-- A round whose word and constant come as one sum.
use Rattle.std.proofs.Common.{◌≡◌, ℕ, ◌+◌, ◌%◌, ◌^◌, ◌<◌, List, [], ◌∷◌, slice_index, arith, refl, sym, ap, ◌∙◌}
use Rattle.std.proofs.Math.Nat.{add-mod-mod, mod-add-mod}
use Rattle.sha2.specs.Sha256.{add32, big_sigma0, big_sigma1, ch, maj, round, round_constants, rounds}
use Rattle.sha2.proofs.Schedule256.{rounds_next}
use Rattle.esx_formulas.specs.Lanes.{lane_at, AreSums}

-- the five summands of a round in two orders
pub summed : (h s c k w sum : ℕ) → sum ≡ add32 w k → add32 (add32 (add32 h sum) c) s ≡ add32 (add32 (add32 (add32 h s) c) k) w
summed h s c k w sum e = rw e (simp (add-mod-mod, mod-add-mod) (ap (λ (n : ℕ). n % 2 ^ 32) (omega arith)))

-- one round more
pub round_more : (sums : List (List ℕ)) (lane : ℕ) (ws h v next : List ℕ) (t s : ℕ) → s < 64 → s ≡ t → AreSums sums lane ws 64 → v ≡ rounds h ws t
    → ((k w : ℕ) → lane_at sums s lane ≡ add32 w k → next ≡ round v k w) → next ≡ rounds h ws (t + 1)
round_more sums lane ws h v next t s fits same held before step =
    step (slice_index round_constants s) (slice_index ws s) (held s fits) ∙ rw (same, before) (sym (rounds_next h ws t))

-- a round from the results of its parts
pub round_by_sum : (v : List ℕ) (sum k w s0 s1 c m : ℕ) → s0 ≡ big_sigma0 (slice_index v 0) → s1 ≡ big_sigma1 (slice_index v 4)
    → c ≡ ch (slice_index v 4) (slice_index v 5) (slice_index v 6) → m ≡ maj (slice_index v 0) (slice_index v 1) (slice_index v 2)
    → sum ≡ add32 w k
    → add32 (add32 (add32 (add32 (slice_index v 7) sum) c) s1) (add32 s0 m) ∷ slice_index v 0 ∷ slice_index v 1 ∷ slice_index v 2
    ∷ add32 (slice_index v 3) (add32 (add32 (add32 (slice_index v 7) sum) c) s1) ∷ slice_index v 4 ∷ slice_index v 5 ∷ slice_index v 6 ∷ []
    ≡ round v k w
round_by_sum v sum k w s0 s1 c m e0 e1 ec em e =
    let same : add32 (add32 (add32 (slice_index v 7) sum) c) s1 ≡ add32 (add32 (add32 (add32 (slice_index v 7) s1) c) k) w = summed (slice_index v 7) s1 c k w sum e in
    rw (same, e0, e1, ec, em) refl
