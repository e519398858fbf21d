-- The first place of a list that passes a test.
use Rattle.std.proofs.Common.{◌≡◌, ℕ, ◌+◌, ◌<◌, Bool, true, false, List, [], ◌∷◌, map, length, position, Some, None, get_or, inl, inr, refl, sym, ◌∙◌, arith}
use Rattle.std.specs.List.{position_or_len, position_from}
use Rattle.std.proofs.lemmas.Iterator.Adapters.{position_from-zero}
use Rattle.std.proofs.lemmas.List.Quantifiers.{position-Some}
use Rattle.std.proofs.lemmas.List.Sums.{position_or_len_is, fails_before_first}
use Rattle.std.proofs.lemmas.Bool.{lt-ltb, le-ltb, cases_lt}

-- the first place among images is the first whose image passes
pub position_from-map : {X Y : Type 0} (p : Y → Bool) (f : X → Y) (i : ℕ) (xs : List X) → position_from p i (map f xs) ≡ position_from (λ x. p (f x)) i xs
position_from-map p f i [] = refl
position_from-map p f i (x ∷ xs) = rw (position_from-map p f (i + 1) xs) refl

-- a place that passes, with none before it that does, is the first
pub first_is : {X : Type 0} (p : X → Bool) (xs : List X) (i : ℕ) (d : X) → i < length xs → p (get_or xs i d) ≡ true → ((k : ℕ) → k < i → p (get_or xs k d) ≡ false) → position_from p 0 xs ≡ Some i
first_is p xs i d h here before =
    let e : position_or_len p xs ≡ i = position_or_len_is p xs i d (omega arith) before (λ _. here) in
    let found : position p xs ≡ Some i = rw (e, lt-ltb i (length xs) h) refl in
    sym (position_from-zero p xs) ∙ found

-- where no place passes there is no first
pub first_is_none : {X : Type 0} (p : X → Bool) (xs : List X) (d : X) → ((k : ℕ) → k < length xs → p (get_or xs k d) ≡ false) → position_from p 0 xs ≡ None
first_is_none p xs d fails =
    let e : position_or_len p xs ≡ length xs = position_or_len_is p xs (length xs) d (omega arith) fails (λ h. absurd (omega arith)) in
    let none : position p xs ≡ None = rw (e, le-ltb (length xs) (length xs) (omega arith)) refl in
    sym (position_from-zero p xs) ∙ none

-- where there is no first, no place passes
pub none_passes : {X : Type 0} (p : X → Bool) (xs : List X) (d : X) → position_from p 0 xs ≡ None → (k : ℕ) → k < length xs → p (get_or xs k d) ≡ false
none_passes p xs d e k h =
    elim (cases_lt (position_or_len p xs) (length xs)) [
      | inl l ↦ let some : position p xs ≡ Some (position_or_len p xs) = rw (lt-ltb (position_or_len p xs) (length xs) l) refl in
          let none : position p xs ≡ None = position_from-zero p xs ∙ e in cc
      | inr m ↦ fails_before_first p xs k d (omega arith)
    ]

-- a first is in range, it passes, and none before it does
pub first_found : {X : Type 0} (p : X → Bool) (xs : List X) (i : ℕ) (d : X) → position_from p 0 xs ≡ Some i → (i < length xs) × (p (get_or xs i d) ≡ true) × ((k : ℕ) → k < i → p (get_or xs k d) ≡ false)
first_found p xs i d e = position-Some p xs i d (position_from-zero p xs ∙ e)
