-- Which keys a table keeps of the pages in its slots.
use Rattle.std.specs.Prelude.{ℕ, Bool, List}
use Rattle.esx_types.specs.declared.table.SlotRow.{SlotRow}
use Rattle.esx_types.specs.Slots.{held_bytes, slot_at}
use Rattle.esx_known.specs.Known.{KnowsKeys}
use Rattle.esx_swap.specs.Table.{IsTable}

-- the bytes in each slot
abbrev pub bytes_in : List SlotRow → ℕ → List ℕ
bytes_in rows i = held_bytes (slot_at rows i)

-- what a table keeps beside its rows, its keys too
pub record IsKeyed (rows : List SlotRow) (index : List Bool) (count : ℕ) (words : List ℕ) : Type 0 where
  pub table : IsTable rows index count
  pub keys : KnowsKeys (bytes_in rows) words
