-- How many rows there are, and how many pages above their floors.
use Rattle.std.proofs.Common.{ℕ, zero, suc, ◌*◌, ◌<◌, ◌≤◌, List, length, inl, inr, arith}
use Rattle.std.proofs.lemmas.Bool.{cases_lt}
use Rattle.std.proofs.lemmas.List.Sums.{sum_by-le}
use Rattle.std.proofs.lemmas.List.Elements.{All-from_get_or}
use Rattle.std.specs.Prelude.{sum_by, All}
use Rattle.esx_types.specs.declared.config.TheConstants.{MAX_PAGES, VM_NUMBERS}
use Rattle.esx_formulas.specs.declared.targets.Row.{Row}
use Rattle.esx_formulas.specs.Ratio.{AreRows, row_at, no_row}
use Rattle.esx_formulas.specs.Targets.{spare}

-- a row's machine has no lower number than the row
pub vm_at_least : (rows : List Row) (i : ℕ) → AreRows rows → i < length rows → i ≤ (row_at rows i).vm
vm_at_least rows zero are fits = omega arith
vm_at_least rows (suc i) are fits =
    omega (arith, vm_at_least rows i are (omega arith), are.ordered i (suc i) (omega arith) fits)

-- there are no more rows than machines
pub rows_few : (rows : List Row) → AreRows rows → length rows ≤ VM_NUMBERS
rows_few rows are =
    elim (cases_lt VM_NUMBERS (length rows)) [
      | inl p ↦ absurd (omega (arith, vm_at_least rows VM_NUMBERS are p, (are.each VM_NUMBERS p).vm))
      | inr p ↦ p
    ]

-- and not too many pages to count
pub spare_few : (rows : List Row) → AreRows rows → sum_by spare rows ≤ VM_NUMBERS * MAX_PAGES
spare_few rows are =
    let each : All (λ row. spare row ≤ MAX_PAGES) rows = All-from_get_or (λ row. spare row ≤ MAX_PAGES) rows no_row (λ i p. omega (arith, (are.each i p).most_pages)) in
    omega (arith, sum_by-le spare MAX_PAGES rows each, rows_few rows are)
