-- Revoking the pages of rows that cost more than a limit, in parts of 1/`PARTS` of a price over a weight.
use Rattle.std.specs.Prelude.{◌≡◌, ℕ, ◌+◌, ◌-◌, ◌*◌, ◌/◌, ◌<◌, ◌≤◌, min, max, List, [], ◌∷◌, length, slice_index}
use Rattle.esx_types.specs.declared.config.TheConstants.{MAX_PAGES}
use Rattle.esx_formulas.specs.declared.targets.Row.{Row}
use Rattle.esx_formulas.specs.declared.ratio.TheConstants.{WHOLE_PRICE}
use Rattle.esx_average.specs.declared.limit.Part.{Part}
use Rattle.esx_average.specs.declared.limit.TheConstants.{MOST_RATE, WHOLE_RATE}
use Rattle.esx_average.specs.declared.bulk.TheConstants.{PARTS}
use Rattle.esx_formulas.specs.Ratio.{row_at}

-- how many of a row's pages cost no more than a limit of one, in units of 1/`UNIT`
abbrev pub rate : Row → ℕ
rate row = row.shares * (100 - row.tau) * WHOLE_RATE / (WHOLE_PRICE - row.tau * row.active)

-- the numbers of a row in a search are in their ranges
pub record IsPart (part : Part) : Type 0 where
  pub rate : part.rate ≤ MOST_RATE
  pub pages : part.pages ≤ MAX_PAGES

-- the row has pages above its floor
abbrev pub IsAbove : Part → Type 0
IsAbove part = part.floor < part.pages

-- what a row keeps of so many pages
abbrev pub kept : Row → ℕ → ℕ → ℕ
kept row limit pages = min pages (max (row.shares * (100 - row.tau) * limit / ((WHOLE_PRICE - row.tau * row.active) * PARTS)) row.floor)

-- how many pages cost more
abbrev pub dearer : List Row → ℕ → List ℕ → ℕ
dearer [] limit targets = 0
dearer (row ∷ rows) limit [] = 0
dearer (row ∷ rows) limit (target ∷ targets) = (target - kept row limit target) + dearer rows limit targets

-- each row keeps what costs no more than the limit
pub record AreKept (rows : List Row) (limit : ℕ) (before after : List ℕ) : Type 0 where
  pub count : length after ≡ length rows
  pub each : (i : ℕ) → i < length rows → slice_index after i ≡ kept (row_at rows i) limit (slice_index before i)

-- so many pages were revoked, all that cost more than some limit
pub record WereRevoked (rows : List Row) (before after : List ℕ) (pages : ℕ) : Type 0 where
  pub limit : ℕ
  pub rest : AreKept rows limit before after
  pub sum : pages ≡ dearer rows limit before
