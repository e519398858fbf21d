-- Who pays for the next page: shares per page, where an idle page costs more (Waldspurger, "Reclaiming Idle Memory").
use Rattle.std.specs.Prelude.{◌≡◌, ℕ, ◌-◌, ◌*◌, ◌/◌, ◌≤◌, ◌<◌, List, length, slice_index_or, Option, Some, None}
use Rattle.esx_types.specs.declared.config.TheConstants.{MAX_PAGES, MAX_SHARES, MAX_TAU, VM_NUMBERS}
use Rattle.esx_formulas.specs.declared.targets.Row.{Row}
use Rattle.esx_formulas.specs.declared.activity.TheConstants.{WHOLE}
use Rattle.esx_formulas.specs.declared.ratio.TheConstants.{WHOLE_PRICE}

-- the tax that a machine pays: its own, or else the site's
abbrev pub tax_of : ℕ → Option ℕ → ℕ
tax_of common None = common
tax_of common (Some own) = own

-- A fraction that a virtual machine is judged by.
pub record Claim : Type 0 where
  pub vm : ℕ
  pub over : ℕ
  pub under : ℕ

-- the taxed ratio of a row at its own tax, were it to have so many pages: the tax in percent, the active share in units of 1/`WHOLE`.
-- An idle page costs 1 / (1 - tau) of an active one, so what is left of the tax stands over the fraction.
abbrev pub claim : Row → ℕ → Claim
claim row pages = record { vm = row.vm; over = row.shares * (100 - row.tau); under = pages * (WHOLE_PRICE - row.tau * row.active) }

-- in thousandths of a share for a page: a claim counts shares in hundredths, and pages in units of 1/`WHOLE_PRICE`
abbrev pub thousandths : Claim → ℕ
thousandths c = 1000 * (WHOLE * c.over) / c.under

-- The less fraction comes first, and of equal ones the lower machine.
pub record ComesNoLater (a b : Claim) : Type 0 where
  pub ratio : a.over * b.under ≤ b.over * a.under
  pub tie : a.over * b.under ≡ b.over * a.under → a.vm ≤ b.vm

-- a row's numbers are in their ranges
pub record IsRow (row : Row) : Type 0 where
  pub vm : row.vm < VM_NUMBERS
  pub least_shares : 1 ≤ row.shares
  pub most_shares : row.shares ≤ MAX_SHARES
  pub most_pages : row.pages ≤ MAX_PAGES
  pub most_floor : row.floor ≤ MAX_PAGES
  pub most_active : row.active ≤ WHOLE
  pub most_tau : row.tau ≤ MAX_TAU

abbrev pub no_row : Row
no_row = record { vm = 0; shares = 0; pages = 0; floor = 0; active = 0; tau = 0 }

abbrev pub row_at : List Row → ℕ → Row
row_at rows i = slice_index_or rows i no_row

-- the rows of some virtual machines, in order of number
pub record AreRows (rows : List Row) : Type 0 where
  pub each : (i : ℕ) → i < length rows → IsRow (row_at rows i)
  pub ordered : (i j : ℕ) → i < j → j < length rows → (row_at rows i).vm < (row_at rows j).vm

-- the row at i comes first of those with pages above their floor
pub record IsLeast (rows : List Row) (i : ℕ) : Type 0 where
  pub within : i < length rows
  pub above : (row_at rows i).floor < (row_at rows i).pages
  pub first : (j : ℕ) → j < length rows → (row_at rows j).floor < (row_at rows j).pages →
      ComesNoLater (claim (row_at rows i) (row_at rows i).pages) (claim (row_at rows j) (row_at rows j).pages)

-- no row has pages above its floor
pub record AreAtFloor (rows : List Row) : Type 0 where
  pub none : (i : ℕ) → i < length rows → (row_at rows i).pages ≤ (row_at rows i).floor

-- the machine whose row comes first of those with pages above their floor
pub record HasLeastRatio (rows : List Row) (vm : ℕ) : Type 0 where
  pub at : ℕ
  pub least : IsLeast rows at
  pub is : (row_at rows at).vm ≡ vm
