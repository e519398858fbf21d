-- What a change of one row does to the index of free rows, to their number, and to the kept keys.
use Rattle.std.proofs.Common.{◌≡◌, ℕ, ◌+◌, ◌-◌, ◌^◌, ◌<◌, Bool, true, cond, map, List, length, set, replicate, sym, ap, ◌∙◌, mul-one}
use Rattle.std.proofs.lemmas.List.{get_or-set_other, length-set, length-replicate}
use Rattle.std.proofs.lemmas.List.Folds.{sum_by-replicate}
use Rattle.esx_lists.specs.Counts.{one}
use Rattle.esx_lists.proofs.Counts.{count_by-set, map-replicate}
use Rattle.esx_types.specs.declared.table.SlotRow.{SlotRow}
use Rattle.esx_types.specs.declared.table.SlotRow.TheVariants.{Free}
use Rattle.esx_types.specs.Slots.{held_bytes, is_empty, slot_at}
use Rattle.esx_known.specs.Known.{KnowsKeys}
use Rattle.esx_known.proofs.Callers.{knows_forgotten}
use Rattle.esx_swap.specs.Known.{bytes_in}
use Rattle.esx_swap.specs.Table.{IsTable}

-- the table after a row was written
pub table_set : (rows : List SlotRow) (i : ℕ) (row : SlotRow) (index before : List Bool) (count had : ℕ) → IsTable rows before had → i < length rows → index ≡ map is_empty (set rows i row) → count ≡ had - one (is_empty (slot_at rows i)) + one (is_empty row) → IsTable (set rows i row) index count
table_set rows i row index before count had t h free counted = record {
  fits = rw length-set t.fits;
  free = free;
  counted = counted ∙ rw t.counted (sym (count_by-set is_empty rows i row Free h));
}

pub table_new : (n : ℕ) → n < 2 ^ 32 → IsTable (replicate n Free) (replicate n true) n
table_new n small = record {
  fits = rw length-replicate small;
  free = sym (map-replicate is_empty n Free);
  counted = rw (sum_by-replicate (λ x. cond (is_empty x) 1 0) n Free) (sym (mul-one n));
}

pub row_forgotten : (rows : List SlotRow) (words : List ℕ) (i : ℕ) (row : SlotRow) → KnowsKeys (bytes_in rows) words → KnowsKeys (bytes_in (set rows i row)) (set words i 0)
row_forgotten rows words i row k =
    knows_forgotten (bytes_in rows) (bytes_in (set rows i row)) words i k (λ at other. ap held_bytes (get_or-set_other rows i at row Free other))
