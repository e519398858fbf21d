-- How the children of each node are found.
use Rattle.std.specs.Prelude.{◌≡◌, ℕ, zero, suc, ◌<◌, Bool, false, List, length, Option, Some, None, is_some, slice_index_or, slice_set}
use Rattle.esx_journal.specs.Rows.{Row}

-- the child of a number, and none of 0: the opening is nobody's child
abbrev pub child_of_number : ℕ → Option ℕ
child_of_number zero = None
child_of_number (suc n) = Some (suc n)

-- a row for the place where there is none
abbrev pub no_row : Row
no_row = record { parent = 0; last = 0; first = 0; next = 0; back = None }

abbrev pub parent_of : List Row → ℕ → ℕ
parent_of rows n = (slice_index_or rows n no_row).parent

abbrev pub has_record : List Row → ℕ → Bool
has_record rows n = is_some (slice_index_or rows n no_row).back

abbrev pub last_of : List Row → ℕ → ℕ
last_of rows n = (slice_index_or rows n no_row).last

abbrev pub first_of : List Row → ℕ → ℕ
first_of rows n = (slice_index_or rows n no_row).first

abbrev pub next_of : List Row → ℕ → ℕ
next_of rows n = (slice_index_or rows n no_row).next

-- The first child of each node and the next older one of each child lead to all children that have a record.
pub record AreLinked (rows : List Row) : Type 0 where
  pub older : (n : ℕ) → 0 < n → n < length rows → parent_of rows n < n
  pub first : (p : ℕ) → p < length rows → 0 < first_of rows p → (first_of rows p < length rows) × (parent_of rows (first_of rows p) ≡ p)
  pub next : (c : ℕ) → c < length rows → 0 < next_of rows c → (next_of rows c < c) × (parent_of rows (next_of rows c) ≡ parent_of rows c)
  pub past : (c : ℕ) → 0 < c → c < length rows → first_of rows (parent_of rows c) < c → has_record rows c ≡ false
  pub between : (c b : ℕ) → c < length rows → 0 < b → next_of rows c < b → b < c → parent_of rows b ≡ parent_of rows c → has_record rows b ≡ false

-- the rows without the first child of a place, which is followed by another
abbrev pub unlinked : List Row → ℕ → ℕ → List Row
unlinked rows at next = slice_set rows at (record (slice_index_or rows at no_row) { first = next })
