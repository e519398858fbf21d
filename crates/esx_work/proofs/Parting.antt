-- What is taken off a list, one by one, into room that is there.
use Rattle.std.proofs.Common.{◌≡◌, ◌<◌, ◌≤◌, ◌+◌, ℕ, List, [], ◌∷◌, ◌++◌, length, length-append, slice_get, add-one, Some, Result, Ok, Err, IsOk, OnErr, refl, sym, ap, ◌∙◌, arith}

module _ {A : Type 0} where
  middle_get : (xs ys : List A) (z : A) → slice_get (xs ++ z ∷ ys) (length xs) ≡ Some z
  middle_get [] ys z = refl
  middle_get (x ∷ xs) ys z = middle_get xs ys z

  -- the next one, of what is left
  pub next_get : (all xs rest left : List A) (z : A) → xs ++ rest ≡ all → rest ≡ z ∷ left → slice_get all (length xs) ≡ Some z
  next_get all xs rest left z are next = ap (λ (l : List A). slice_get l (length xs)) (sym are ∙ ap (λ (l : List A). xs ++ l) next) ∙ middle_get xs left z

  -- not all were taken
  pub few_taken : (all xs rest left : List A) (z : A) → xs ++ rest ≡ all → rest ≡ z ∷ left → length xs < length all
  few_taken all xs rest left z are next =
      let some : length rest ≡ length left + 1 = ap length next ∙ sym (add-one (length left)) in
      let both : length all ≡ length xs + length rest = sym (ap length are) ∙ length-append xs rest in
      omega arith

-- a push into room that is there
pub fits_in : {E : Type 0} (r : Result (Unit {0}) E) (room many : ℕ) → OnErr r (room ≤ many) → many < room → IsOk r
fits_in (Ok v) room many full lt = refl
fits_in (Err e) room many full lt = absurd (omega arith)
