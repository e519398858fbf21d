-- What a swap slot's row is, and the list of them.
use Rattle.std.specs.Prelude.{ℕ, Bool, true, false, List, [], Option, slice_index_or}
use Rattle.std.specs.List.{position_from}
use Rattle.esx_types.specs.declared.table.SlotRow.{SlotRow}
use Rattle.esx_types.specs.declared.table.SlotRow.TheVariants.{Free, Held}

-- whether no page is in the slot
abbrev pub is_empty : SlotRow → Bool
is_empty Free = true
is_empty (Held bytes) = false

-- the bytes of the page in the slot; none where no page is
abbrev pub held_bytes : SlotRow → List ℕ
held_bytes Free = []
held_bytes (Held bytes) = bytes

-- the row of a slot; past the end it is free
abbrev pub slot_at : List SlotRow → ℕ → SlotRow
slot_at rows slot = slice_index_or rows slot Free

-- the least slot that is free
abbrev pub least_slot : List SlotRow → Option ℕ
least_slot rows = position_from is_empty 0 rows
