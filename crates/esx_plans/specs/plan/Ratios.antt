-- What machines have, as rows that targets are made from.
use Rattle.std.specs.Prelude.{◌≡◌, ℕ, ◌+◌, List, [], ◌∷◌, length, Option, Some, None}
use Rattle.esx_types.specs.declared.config.TheConstants.{VM_NUMBERS}
use Rattle.esx_types.specs.Pages.{resident_count}
use Rattle.esx_formulas.specs.declared.targets.Row.{Row}
use Rattle.esx_formulas.specs.Ratio.{AreRows, tax_of}
use Rattle.esx_model.specs.declared.book.VmRow.{VmRow}
use Rattle.esx_model.specs.declared.tables.Tables.{Tables}
use Rattle.esx_model.specs.Readings.{active_now}
use Rattle.esx_tables.specs.Readings.{row_at}
use Rattle.esx_changes.specs.Activity.{IsTold}

-- what is made of each machine that there is, in order of number from n on
abbrev pub numbered : {X : Type 0} → (ℕ → VmRow → X) → ℕ → List (Option VmRow) → List X
numbered make n [] = []
numbered make n (None ∷ vms) = numbered make (n + 1) vms
numbered make n (Some v ∷ vms) = make n v ∷ numbered make (n + 1) vms

-- what a machine has, where the site has that tax, of which it keeps so many pages in any case
abbrev pub ratio_row : ℕ → (VmRow → ℕ) → ℕ → VmRow → Row
ratio_row tau floor n v = record { vm = n; shares = v.spec.shares; pages = resident_count v.pages; floor = floor v; active = active_now v; tau = tax_of tau v.spec.tau }

abbrev pub ratio_rows : (VmRow → ℕ) → Tables → List Row
ratio_rows floor t = numbered (ratio_row t.tau floor) 0 t.vms

abbrev pub least_of : VmRow → ℕ
least_of v = v.spec.min

-- What is known of every site's tables where targets are made: each number of a row is in its range.
pub record HaveRatios (t : Tables) : Type 0 where
  pub places : length t.vms ≡ VM_NUMBERS
  pub rows : AreRows (ratio_rows least_of t)
  pub periods : (n : ℕ) (v : VmRow) → row_at t n ≡ Some v → IsTold v.period
