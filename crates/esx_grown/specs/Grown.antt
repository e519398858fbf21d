-- Lists of a length of which a part is kept.
use Rattle.std.specs.Prelude.{◌≡◌, ℕ, ◌-◌, ◌≤◌, ◌++◌, List, length, replicate}

-- the rows that are kept, and blank ones up to the length
abbrev pub grown : {A : Type 0} → A → List A → ℕ → List A
grown blank used len = used ++ replicate (len - length used) blank

-- no more rows are kept than there are, there is room for all, and the row that is lent is blank
pub record IsGrown {A : Type 0} (blank unused : A) (used len capacity : ℕ) : Type 0 where
  pub lent : unused ≡ blank
  pub within : used ≤ len
  pub room : len ≤ capacity
