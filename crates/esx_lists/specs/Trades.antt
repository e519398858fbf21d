-- What a trade with a list leaves of both, and trades in turn.
use Rattle.std.specs.Prelude.{◌≡◌, ℕ, ◌+◌, ◌-◌, ◌&&◌, nat_lt, nat_le, List, [], ◌∷◌, ◌++◌, length, take, drop, Option, Some, None, slice_index_or, slice_set, if◌then◌else◌}

-- made again with what came out, the trade gives both as they were
abbrev pub LeadsBack : {S C : Type 0} → (S → C → S × C) → Type 0
LeadsBack {S} {C} one = (s : S) (c : C) → one (one s c).0 (one s c).1 ≡ (s, c)

-- a row traded with the one at a place; past the end nothing changes
abbrev pub row_traded : {T : Type 0} → List T → ℕ → T → List T × T
row_traded rows at row = (slice_set rows at row, slice_index_or rows at row)

-- the row at a place traded through another trade; past the end it is d that is traded, and dropped
abbrev pub place_traded : {A B : Type 0} → (A → B → A × B) → List A → ℕ → A → B → List A × B
place_traded one rows at d b = (slice_set rows at (one (slice_index_or rows at d) b).0, (one (slice_index_or rows at d) b).1)

-- a list with other items from a place on
abbrev pub overwritten : {T : Type 0} → List T → ℕ → List T → List T
overwritten old at new = take at old ++ new ++ drop (at + length new) old

-- items traded with as many from a place on; where they do not fit nothing changes
unfoldable pub part_traded : {T : Type 0} → List T → ℕ → List T → List T × List T
part_traded old at new =
    if nat_le at (length old) && nat_le (length new) (length old - at) then (overwritten old at new, take (length new) (drop at old))
    else (old, new)

-- an item onto the end of a list where there is room, or the last one off it
unfoldable pub top_traded : {T : Type 0} → ℕ → T → List T → Option T → List T × Option T
top_traded room d held (Some x) = if nat_lt (length held) room then (held ++ x ∷ [], None) else (held, Some x)
top_traded room d held None =
    if nat_lt 0 (length held) && nat_le (length held) room then (take (length held - 1) held, Some (slice_index_or held (length held - 1) d))
    else (held, None)

-- an item at a place turned into another; past the end nothing changes
abbrev pub place_turned : {T : Type 0} → (T → T) → List T → ℕ → T → List T
place_turned turn rows at d = slice_set rows at (turn (slice_index_or rows at d))

module _ {S C : Type 0} (one : S → C → S × C) where
  -- each is traded in order; the list that comes out begins with the last
  abbrev pub in_turn : S → List C → S × List C
  in_turn s [] = (s, [])
  in_turn s (c ∷ cs) = ((in_turn (one s c).0 cs).0, (in_turn (one s c).0 cs).1 ++ (one s c).1 ∷ [])
