-- A search for the row that pays next, each row judged at some number of pages.
use Rattle.std.specs.Prelude.{ℕ, ◌<◌, ◌≤◌, List, Option, Some, None}
use Rattle.esx_formulas.specs.declared.targets.Row.{Row}
use Rattle.esx_formulas.specs.Ratio.{claim, ComesNoLater, row_at}

-- of the first n rows, those with pages above their floor, the row at i comes first
pub record IsFirstBelow (rows : List Row) (pages : ℕ → ℕ) (n i : ℕ) : Type 0 where
  pub within : i < n
  pub above : (row_at rows i).floor < pages i
  pub first : (j : ℕ) → j < n → (row_at rows j).floor < pages j →
      ComesNoLater (claim (row_at rows i) (pages i)) (claim (row_at rows j) (pages j))

-- none of the first n rows has pages above its floor
pub record AreNoneBelow (rows : List Row) (pages : ℕ → ℕ) (n : ℕ) : Type 0 where
  pub none : (j : ℕ) → j < n → pages j ≤ (row_at rows j).floor

-- a search over the first n rows found this
abbrev pub IsBestBelow : List Row → (ℕ → ℕ) → ℕ → Option ℕ → Type 0
IsBestBelow rows pages n None = AreNoneBelow rows pages n
IsBestBelow rows pages n (Some i) = IsFirstBelow rows pages n i
