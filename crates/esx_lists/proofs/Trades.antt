-- Trades with a list lead back, and at two places they do not meet.
use Rattle.std.proofs.Common.{◌≡◌, ◌≢◌, ℕ, zero, suc, ◌+◌, ◌-◌, ◌<◌, ◌≤◌, List, [], ◌∷◌, ◌++◌, length, take, drop, refl, sym, ap, ◌∙◌, arith, append_assoc, nat_le, Bool, true, false, ◌&&◌, get_or-set_other}
use Rattle.std.proofs.lemmas.List.{take-append-drop, set_comm}
use Rattle.std.proofs.lemmas.Grind.{common_steps}
use Rattle.std.proofs.lemmas.Bool.Decides.{nat_tests}
use Rattle.esx_lists.specs.Trades.{LeadsBack, row_traded, place_traded, overwritten, part_traded}

pub row_back : {A : Type 0} (xs : List A) (i : ℕ) (x : A) → row_traded (row_traded xs i x).0 i (row_traded xs i x).1 ≡ (xs, x)
row_back [] i x = refl
row_back (y ∷ ys) zero x = refl
row_back {A = A} (y ∷ ys) (suc i) x = ap (λ (r : List A × A). (y ∷ r.0, r.1)) (row_back ys i x)

-- a place traded through a trade that leads back, and that leaves what stands past the end
pub place_back : {A B : Type 0} (f : A → B → A × B) → LeadsBack f → (d : A) → ((b : B) → (f d b).0 ≡ d) → (xs : List A) (i : ℕ) (b : B)
    → place_traded f (place_traded f xs i d b).0 i d (place_traded f xs i d b).1 ≡ (xs, b)
place_back {A = A} {B = B} f back d still [] i b =
    let none : List A = [] in
    ap (λ (a : A). (none, (f a (f d b).1).1)) (sym (still b)) ∙ ap (λ (r : A × B). (none, r.1)) (back d b)
place_back {A = A} {B = B} f back d still (x ∷ xs) zero b = ap (λ (r : A × B). (r.0 ∷ xs, r.1)) (back x b)
place_back {A = A} {B = B} f back d still (x ∷ xs) (suc i) b = ap (λ (r : List A × B). (x ∷ r.0, r.1)) (place_back f back d still xs i b)

-- at a place that there is, nothing more is asked
pub place_back_inside : {A B : Type 0} (f : A → B → A × B) → LeadsBack f → (d : A) (xs : List A) (i : ℕ) (b : B) → i < length xs
    → place_traded f (place_traded f xs i d b).0 i d (place_traded f xs i d b).1 ≡ (xs, b)
place_back_inside f back d [] i b h = absurd (omega (arith, h))
place_back_inside {A = A} {B = B} f back d (x ∷ xs) zero b h = ap (λ (r : A × B). (r.0 ∷ xs, r.1)) (back x b)
place_back_inside {A = A} {B = B} f back d (x ∷ xs) (suc i) b h = ap (λ (r : List A × B). (x ∷ r.0, r.1)) (place_back_inside f back d xs i b (omega arith))

-- of trades at two places it does not matter which comes first
pub rows_apart : {A : Type 0} (xs : List A) (i j : ℕ) (x y : A) → i ≢ j → (row_traded (row_traded xs i x).0 j y).0 ≡ (row_traded (row_traded xs j y).0 i x).0
rows_apart xs i j x y ne = set_comm xs i j x y ne

pub row_apart : {A : Type 0} (xs : List A) (i j : ℕ) (x y : A) → i ≢ j → (row_traded (row_traded xs i x).0 j y).1 ≡ (row_traded xs j y).1
row_apart xs i j x y ne = get_or-set_other xs i j x y (λ e. ne (sym e))

-- Items within a list.

module _ {A : Type 0} where
  abbrev pub fits : List A → ℕ → List A → Bool
  fits old at new = nat_le at (length old) && nat_le (length new) (length old - at)

  pub part_fits : (old : List A) (at : ℕ) (new : List A) → fits old at new ≡ true → part_traded old at new ≡ (overwritten old at new, take (length new) (drop at old))
  unfolding part_traded
  part_fits old at new h = rw h

  pub part_misfits : (old : List A) (at : ℕ) (new : List A) → fits old at new ≡ false → part_traded old at new ≡ (old, new)
  unfolding part_traded
  part_misfits old at new h = rw h

  pub fits_when : (old : List A) (at : ℕ) (new : List A) → at + length new ≤ length old → fits old at new ≡ true
  fits_when old at new h = grind (arith, nat_tests)

  fits_at : (old : List A) (at : ℕ) (new : List A) → fits old at new ≡ true → at ≤ length old
  fits_at old at new h = grind (arith, nat_tests)

  fits_len : (old : List A) (at : ℕ) (new : List A) → fits old at new ≡ true → length new ≤ length old - at
  fits_len old at new h = grind (arith, nat_tests)

  fits_again : (old : List A) (at : ℕ) (new : List A) → at ≤ length old → length new ≤ length old - at → fits (overwritten old at new) at (take (length new) (drop at old)) ≡ true
  fits_again old at new h k = grind (arith, common_steps, nat_tests)

  front_again : (old : List A) (at : ℕ) (new : List A) → at ≤ length old → length new ≤ length old - at → take at (overwritten old at new) ≡ take at old
  front_again old at new h k = grind (arith, common_steps)

  rest_again : (old : List A) (at : ℕ) (new : List A) → at ≤ length old → length new ≤ length old - at → drop (at + length (take (length new) (drop at old))) (overwritten old at new) ≡ drop (at + length new) old
  rest_again old at new h k = grind (arith, common_steps)

  drop_more : (old : List A) (at n : ℕ) → drop (at + n) old ≡ drop n (drop at old)
  drop_more old at n = grind (arith, common_steps)

  whole : (old : List A) (at n : ℕ) → take at old ++ take n (drop at old) ++ drop (at + n) old ≡ old
  whole old at n =
      let apart : take at old ++ take n (drop at old) ++ drop (at + n) old ≡ take at old ++ (take n (drop at old) ++ drop (at + n) old) = simp append_assoc in
      apart ∙ ap (λ (l : List A). take at old ++ (take n (drop at old) ++ l)) (drop_more old at n) ∙ ap (λ (l : List A). take at old ++ l) (take-append-drop n (drop at old)) ∙ take-append-drop at old

  old_again : (old : List A) (at : ℕ) (new : List A) → at ≤ length old → length new ≤ length old - at → overwritten (overwritten old at new) at (take (length new) (drop at old)) ≡ old
  old_again old at new h k =
      let n = take (length new) (drop at old) in
      let front : take at (overwritten old at new) ≡ take at old = front_again old at new h k in
      let back : drop (at + length n) (overwritten old at new) ≡ drop (at + length new) old = rest_again old at new h k in
      ap (λ (a : List A). a ++ n ++ drop (at + length n) (overwritten old at new)) front
      ∙ ap (λ (a : List A). take at old ++ n ++ a) back
      ∙ whole old at (length new)

  new_again : (old : List A) (at : ℕ) (new : List A) → at ≤ length old → length new ≤ length old - at → take (length (take (length new) (drop at old))) (drop at (overwritten old at new)) ≡ new
  new_again old at new h k = grind (arith, common_steps)

  pub part_back : (old : List A) (at : ℕ) (new : List A) → part_traded (part_traded old at new).0 at (part_traded old at new).1 ≡ (old, new)
  part_back old at new = of (fits old at new) refl
    where
      of : (t : Bool) → fits old at new ≡ t → part_traded (part_traded old at new).0 at (part_traded old at new).1 ≡ (old, new)
      of true h =
          let low = fits_at old at new h in
          let len = fits_len old at new h in
          ap (λ (r : List A × List A). part_traded r.0 at r.1) (part_fits old at new h)
          ∙ part_fits (overwritten old at new) at (take (length new) (drop at old)) (fits_again old at new low len)
          ∙ ap (λ (o : List A). (o, take (length (take (length new) (drop at old))) (drop at (overwritten old at new)))) (old_again old at new low len)
          ∙ ap (λ (n : List A). (old, n)) (new_again old at new low len)
      of false h = ap (λ (r : List A × List A). part_traded r.0 at r.1) (part_misfits old at new h) ∙ part_misfits old at new h

  -- a part keeps the lengths
  pub length-part_traded : (old : List A) (at : ℕ) (new : List A) → length (part_traded old at new).0 ≡ length old
  length-part_traded old at new = of (fits old at new) refl
    where
      of : (t : Bool) → fits old at new ≡ t → length (part_traded old at new).0 ≡ length old
      of true h =
          let low = fits_at old at new h in
          let len = fits_len old at new h in
          rw (part_fits old at new h) (same low len)
        where
          same : at ≤ length old → length new ≤ length old - at → length (overwritten old at new) ≡ length old
          same low len = grind (arith, common_steps)
      of false h = rw (part_misfits old at new h) refl
