-- What a table keeps beside its rows.
use Rattle.std.specs.Prelude.{◌≡◌, ℕ, ◌^◌, ◌<◌, Bool, List, length, map, count_by}
use Rattle.esx_types.specs.declared.table.SlotRow.{SlotRow}
use Rattle.esx_types.specs.Slots.{is_empty}

-- a slot's number fits, the index says which slots are free, and the count is theirs
pub record IsTable (rows : List SlotRow) (index : List Bool) (count : ℕ) : Type 0 where
  pub fits : length rows < 2 ^ 32
  pub free : index ≡ map is_empty rows
  pub counted : count ≡ count_by is_empty rows
