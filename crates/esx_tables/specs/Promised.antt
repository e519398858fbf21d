-- What is promised to machines, and the places of machines up to the last one.
use Rattle.std.specs.Prelude.{◌≡◌, ℕ, ◌+◌, ◌-◌, ◌*◌, ◌≤◌, ◌++◌, true, List, length, replicate, Option, Some, None, is_some, slice_index_or, sum_by, All}
use Rattle.esx_types.specs.declared.config.TheConstants.{MAX_OVERHEAD, MAX_PAGES, VM_NUMBERS}
use Rattle.esx_model.specs.declared.book.VmRow.{VmRow}

-- the frames that are promised to a machine
abbrev pub memory_of : Option VmRow → ℕ
memory_of None = 0
memory_of (Some v) = v.spec.min + v.spec.overhead

-- the slots that are promised to a machine
abbrev pub swap_of : Option VmRow → ℕ
swap_of None = 0
swap_of (Some v) = v.spec.max - v.spec.min

-- the most that is promised to one machine, of either, and to all
abbrev pub most_of_one : ℕ
most_of_one = MAX_PAGES + MAX_OVERHEAD

abbrev pub most_of_all : ℕ
most_of_all = VM_NUMBERS * most_of_one

-- the places up to the last machine; all others are blank
pub record AreUsed (used all : List (Option VmRow)) : Type 0 where
  pub few : length used ≤ VM_NUMBERS
  pub blank : used ++ replicate (VM_NUMBERS - length used) None ≡ all
  pub last : (n : ℕ) → n + 1 ≡ length used → is_some (slice_index_or used n None) ≡ true

-- What is kept beside the places. No public clause cites the rest of this module.
pub record IsFew (row : Option VmRow) : Type 0 where
  pub memory : memory_of row ≤ most_of_one
  pub swap : swap_of row ≤ most_of_one

-- no machine stands from a place on, and one stands just below it
pub record IsTop (rows : List (Option VmRow)) (used : ℕ) : Type 0 where
  pub past : (n : ℕ) → used ≤ n → slice_index_or rows n None ≡ None
  pub last : (n : ℕ) → n + 1 ≡ used → is_some (slice_index_or rows n None) ≡ true

pub record AreKept (rows : List (Option VmRow)) (used memory swap : ℕ) : Type 0 where
  pub places : length rows ≡ VM_NUMBERS
  pub few : used ≤ VM_NUMBERS
  pub top : IsTop rows used
  pub each : All IsFew rows
  pub frames : memory ≡ sum_by memory_of rows
  pub slots : swap ≡ sum_by swap_of rows
