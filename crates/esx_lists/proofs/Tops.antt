-- The end of a list in a room: an item that goes onto it and comes off again, and the other way round. A turn at a place, made twice.
use Rattle.std.proofs.Common.{◌≡◌, ℕ, zero, suc, ◌-◌, ◌<◌, ◌≤◌, List, [], ◌∷◌, ◌++◌, length, take, refl, ap, ◌∙◌, arith, get_or, Option, Some, None, nat_lt, nat_le, Bool, true, false, ◌&&◌}
use Rattle.std.proofs.lemmas.Grind.{common_steps}
use Rattle.std.proofs.lemmas.Bool.Decides.{nat_tests}
use Rattle.esx_lists.specs.Trades.{LeadsBack, top_traded, place_turned}

module _ {A : Type 0} where
  pub onto_traded : (room : ℕ) (d : A) (held : List A) (x : A) → nat_lt (length held) room ≡ true → top_traded room d held (Some x) ≡ (held ++ x ∷ [], None)
  unfolding top_traded
  onto_traded room d held x h = rw h

  onto_not : (room : ℕ) (d : A) (held : List A) (x : A) → nat_lt (length held) room ≡ false → top_traded room d held (Some x) ≡ (held, Some x)
  unfolding top_traded
  onto_not room d held x h = rw h

  abbrev has_top : ℕ → List A → Bool
  has_top room held = nat_lt 0 (length held) && nat_le (length held) room

  off_traded : (room : ℕ) (d : A) (held : List A) → has_top room held ≡ true → top_traded room d held None ≡ (take (length held - 1) held, Some (get_or held (length held - 1) d))
  unfolding top_traded
  off_traded room d held h = rw h

  off_not : (room : ℕ) (d : A) (held : List A) → has_top room held ≡ false → top_traded room d held None ≡ (held, None)
  unfolding top_traded
  off_not room d held h = rw h

  onto_has : (room : ℕ) (held : List A) (x : A) → nat_lt (length held) room ≡ true → has_top room (held ++ x ∷ []) ≡ true
  onto_has room held x h = grind (arith, common_steps, nat_tests)

  onto_rest : (held : List A) (x : A) → take (length (held ++ x ∷ []) - 1) (held ++ x ∷ []) ≡ held
  onto_rest held x = grind (arith, common_steps)

  onto_last : (d : A) (held : List A) (x : A) → get_or (held ++ x ∷ []) (length (held ++ x ∷ []) - 1) d ≡ x
  onto_last d held x = grind (arith, common_steps)

  top_some : (room : ℕ) (held : List A) → has_top room held ≡ true → 0 < length held
  top_some room held h = grind (arith, nat_tests)

  top_room : (room : ℕ) (held : List A) → has_top room held ≡ true → length held ≤ room
  top_room room held h = grind (arith, nat_tests)

  off_room : (room : ℕ) (held : List A) → 0 < length held → length held ≤ room → nat_lt (length (take (length held - 1) held)) room ≡ true
  off_room room held h k = grind (arith, common_steps, nat_tests)

  off_whole : (d : A) (held : List A) → 0 < length held → take (length held - 1) held ++ get_or held (length held - 1) d ∷ [] ≡ held
  off_whole d held h = grind (arith, common_steps)

  pub top_back : (room : ℕ) (d : A) → LeadsBack (top_traded room d)
  top_back room d held (Some x) = of (nat_lt (length held) room) refl
    where
      of : (t : Bool) → nat_lt (length held) room ≡ t → top_traded room d (top_traded room d held (Some x)).0 (top_traded room d held (Some x)).1 ≡ (held, Some x)
      of true h =
          let more = held ++ x ∷ [] in
          ap (λ (r : List A × Option A). top_traded room d r.0 r.1) (onto_traded room d held x h)
          ∙ off_traded room d more (onto_has room held x h)
          ∙ ap (λ (l : List A). (l, Some (get_or more (length more - 1) d))) (onto_rest held x)
          ∙ ap (λ (y : A). (held, Some y)) (onto_last d held x)
      of false h = ap (λ (r : List A × Option A). top_traded room d r.0 r.1) (onto_not room d held x h) ∙ onto_not room d held x h
  top_back room d held None = of (has_top room held) refl
    where
      of : (t : Bool) → has_top room held ≡ t → top_traded room d (top_traded room d held None).0 (top_traded room d held None).1 ≡ (held, None)
      of true h =
          let some = top_some room held h in
          let rest = take (length held - 1) held in
          let last = get_or held (length held - 1) d in
          let none : Option A = None in
          ap (λ (r : List A × Option A). top_traded room d r.0 r.1) (off_traded room d held h)
          ∙ onto_traded room d rest last (off_room room held some (top_room room held h))
          ∙ ap (λ (l : List A). (l, none)) (off_whole d held some)
      of false h = ap (λ (r : List A × Option A). top_traded room d r.0 r.1) (off_not room d held h) ∙ off_not room d held h

  -- a turn that is its own inverse, made twice at a place
  pub turned_back : (turn : A → A) → ((x : A) → turn (turn x) ≡ x) → (at : ℕ) (d : A) (rows : List A) → place_turned turn (place_turned turn rows at d) at d ≡ rows
  turned_back turn back at d [] = refl
  turned_back turn back zero d (x ∷ xs) = ap (λ (y : A). y ∷ xs) (back x)
  turned_back turn back (suc at) d (x ∷ xs) = ap (λ (ys : List A). x ∷ ys) (turned_back turn back at d xs)
