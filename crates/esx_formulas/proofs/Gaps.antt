-- How far two lists of numbers lie apart, place by place.
use Rattle.std.proofs.Common.{◌≡◌, ℕ, zero, suc, ◌+◌, ◌-◌, ◌*◌, ◌<◌, ◌≤◌, ◌⊎◌, List, [], ◌∷◌, length, get_or, set, refl, ap, inl, inr, arith}
use Rattle.std.proofs.lemmas.Bool.{cases_lt}

-- the sum of what each number of the first list is above the second's
abbrev pub gap : List ℕ → List ℕ → ℕ
gap [] ys = 0
gap (x ∷ xs) [] = 0
gap (x ∷ xs) (y ∷ ys) = (x - y) + gap xs ys

-- no number of the first list is above the second's, which is as long
abbrev pub AreBelow : List ℕ → List ℕ → Type 0
AreBelow [] [] = Unit {0}
AreBelow [] (y ∷ ys) = ⊥
AreBelow (x ∷ xs) [] = ⊥
AreBelow (x ∷ xs) (y ∷ ys) = (x ≤ y) × AreBelow xs ys

pub below_from_places : (xs ys : List ℕ) → length xs ≡ length ys → ((i : ℕ) → i < length ys → get_or xs i 0 ≤ get_or ys i 0) → AreBelow xs ys
below_from_places [] [] e h = tt
below_from_places [] (y ∷ ys) e h = omega arith
below_from_places (x ∷ xs) [] e h = omega arith
below_from_places (x ∷ xs) (y ∷ ys) e h =
    (h 0 (omega arith), below_from_places xs ys (omega arith) (λ i p. h (suc i) (omega arith)))

pub below_length : (xs ys : List ℕ) → AreBelow xs ys → length xs ≡ length ys
below_length [] [] h = refl
below_length [] (y ∷ ys) h = absurd h
below_length (x ∷ xs) [] h = absurd h
below_length (x ∷ xs) (y ∷ ys) h = ap suc (below_length xs ys h.1)

pub below_at : (xs ys : List ℕ) (i : ℕ) → AreBelow xs ys → get_or xs i 0 ≤ get_or ys i 0
below_at [] [] i h = omega arith
below_at [] (y ∷ ys) i h = absurd h
below_at (x ∷ xs) [] i h = absurd h
below_at (x ∷ xs) (y ∷ ys) zero h = h.0
below_at (x ∷ xs) (y ∷ ys) (suc i) h = below_at xs ys i h.1

-- a number of the first list is above the second's
pub record IsAboveAt (xs ys : List ℕ) : Type 0 where
  pub at : ℕ
  pub within : at < length ys
  pub above : get_or ys at 0 < get_or xs at 0

-- either no number is above, or one is
pub below_or_above : (xs ys : List ℕ) → length xs ≡ length ys → AreBelow xs ys ⊎ IsAboveAt xs ys
below_or_above [] [] e = inl tt
below_or_above [] (y ∷ ys) e = absurd (omega arith)
below_or_above (x ∷ xs) [] e = absurd (omega arith)
below_or_above (x ∷ xs) (y ∷ ys) e =
    elim (cases_lt y x) [
      | inl p ↦ inr (record { at = 0; within = omega arith; above = p })
      | inr p ↦ elim (below_or_above xs ys (omega arith)) [
        | inl q ↦ inl (p, q)
        | inr r ↦ inr (record { at = suc r.at; within = omega (arith, r.within); above = r.above })
      ]
    ]

-- a gap goes in two steps
pub gap_chain : (xs ys zs : List ℕ) → AreBelow ys xs → AreBelow zs ys → gap xs zs ≡ gap xs ys + gap ys zs
gap_chain [] [] [] p q = refl
gap_chain [] [] (z ∷ zs) p q = absurd q
gap_chain [] (y ∷ ys) zs p q = absurd p
gap_chain (x ∷ xs) [] zs p q = absurd p
gap_chain (x ∷ xs) (y ∷ ys) [] p q = absurd q
gap_chain (x ∷ xs) (y ∷ ys) (z ∷ zs) p q =
    let h : gap xs zs ≡ gap xs ys + gap ys zs = gap_chain xs ys zs p.1 q.1 in
    omega arith

pub gap_of_equal : (xs : List ℕ) → gap xs xs ≡ 0
gap_of_equal [] = refl
gap_of_equal (x ∷ xs) = omega (arith, gap_of_equal xs)

-- no gap, and none above: the lists are equal
pub equal_from_gap : (xs ys : List ℕ) → AreBelow ys xs → gap xs ys ≡ 0 → ys ≡ xs
equal_from_gap [] [] p e = refl
equal_from_gap [] (y ∷ ys) p e = absurd p
equal_from_gap (x ∷ xs) [] p e = absurd p
equal_from_gap (x ∷ xs) (y ∷ ys) p e =
    let head : y ≡ x = omega (arith, p.0) in
    let tail : ys ≡ xs = equal_from_gap xs ys p.1 (omega arith) in
    cc

-- the gap at one place is a part of it
pub gap-at-le : (xs ys : List ℕ) (i : ℕ) → i < length ys → get_or xs i 0 - get_or ys i 0 ≤ gap xs ys
gap-at-le [] ys i h = omega arith
gap-at-le (x ∷ xs) [] i h = omega arith
gap-at-le (x ∷ xs) (y ∷ ys) zero h = omega arith
gap-at-le (x ∷ xs) (y ∷ ys) (suc i) h =
    let r : get_or xs i 0 - get_or ys i 0 ≤ gap xs ys = gap-at-le xs ys i (omega arith) in omega arith

-- where each place lies no more than h apart
pub gap-le : (h : ℕ) (xs ys : List ℕ) → length xs ≡ length ys → ((i : ℕ) → i < length xs → get_or xs i 0 ≤ get_or ys i 0 + h) → gap xs ys ≤ length xs * h
gap-le h [] ys e f = omega arith
gap-le h (x ∷ xs) [] e f = omega arith
gap-le h (x ∷ xs) (y ∷ ys) e f =
    let r : gap xs ys ≤ length xs * h = gap-le h xs ys (omega arith) (λ i p. f (suc i) (omega arith)) in
    let s : x ≤ y + h = f 0 (omega arith) in
    omega arith

-- one number falls by h
pub gap-set : (xs ys : List ℕ) (i h v : ℕ) → i < length ys → length xs ≡ length ys → get_or ys i 0 ≤ get_or xs i 0 → v + h ≡ get_or ys i 0 → gap xs (set ys i v) ≡ gap xs ys + h
gap-set xs [] i h v p e q r = absurd (omega arith)
gap-set [] (y ∷ ys) i h v p e q r = absurd (omega arith)
gap-set (x ∷ xs) (y ∷ ys) zero h v p e q r = omega arith
gap-set (x ∷ xs) (y ∷ ys) (suc i) h v p e q r =
    let s : gap xs (set ys i v) ≡ gap xs ys + h = gap-set xs ys i h v (omega arith) (omega arith) q r in omega arith

-- where no number of the first list is above there is no gap
pub gap-none : (xs ys : List ℕ) → AreBelow xs ys → gap xs ys ≡ 0
gap-none [] ys p = refl
gap-none (x ∷ xs) [] p = refl
gap-none (x ∷ xs) (y ∷ ys) p = omega (arith, p.0, gap-none xs ys p.1)
