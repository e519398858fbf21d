-- Stable targets (Waldspurger, "Share-Based Allocation"): pages are revoked where the ratio is least.
use Rattle.std.specs.Prelude.{◌≡◌, ℕ, zero, suc, ◌+◌, ◌-◌, ◌*◌, ◌≤◌, ◌<◌, ◌==◌, ◌&&◌, ◌||◌, nat_lt, nat_le, max, min, Bool, List, [], ◌∷◌, length, map, fold, slice_index, sum_by, Option, Some, None, if◌then◌else◌}
use Rattle.esx_formulas.specs.declared.targets.Row.{Row}
use Rattle.esx_formulas.specs.Ratio.{Claim, claim, ComesNoLater, row_at}

-- the pages that a row begins with, and how many of them may be revoked
abbrev pub held : Row → ℕ
held row = max row.pages row.floor

abbrev pub spare : Row → ℕ
spare row = row.pages - row.floor

-- how many pages targets revoke in all
abbrev pub revoked : List Row → List ℕ → ℕ
revoked [] targets = 0
revoked (row ∷ rows) [] = 0
revoked (row ∷ rows) (target ∷ targets) = (held row - target) + revoked rows targets

-- The targets of rows where some pages are needed, of which as many are revoked as there are.
pub record AreTargets (rows : List Row) (need : ℕ) (targets : List ℕ) : Type 0 where
  pub count : length targets ≡ length rows
  pub least : (i : ℕ) → i < length rows → (row_at rows i).floor ≤ slice_index targets i
  pub most : (i : ℕ) → i < length rows → slice_index targets i ≤ held (row_at rows i)
  pub total : revoked rows targets ≡ min need (sum_by spare rows)
  -- a page that was revoked comes no later than one that was left above a floor
  pub fair : (i j : ℕ) → i < length rows → j < length rows → slice_index targets i < held (row_at rows i) → (row_at rows j).floor < slice_index targets j →
      ComesNoLater (claim (row_at rows i) (slice_index targets i + 1)) (claim (row_at rows j) (slice_index targets j))

-- the order of ratios as a test
abbrev pub comes_no_later : Claim → Claim → Bool
comes_no_later a b = nat_lt (a.over * b.under) (b.over * a.under) || ((a.over * b.under == b.over * a.under) && nat_le a.vm b.vm)

abbrev pub sooner : Option Claim → Claim → Option Claim
sooner None b = Some b
sooner (Some a) b = if comes_no_later a b then Some a else Some b

-- of the rows with pages above their floor, the ratio that comes first
unfoldable pub first_claim : List Row → Option Claim
first_claim rows = fold (λ best row. if nat_lt row.floor row.pages then sooner best (claim row row.pages) else best) None rows

-- a row with so many pages
abbrev pub with_pages : Row → ℕ → Row
with_pages row pages = record row { pages = pages }

-- the rows after that machine pays one page
abbrev pub paid : List Row → Option Claim → List Row
paid rows None = rows
paid rows (Some a) = map (λ (row : Row). if row.vm == a.vm then with_pages row (row.pages - 1) else row) rows

-- the rows after so many pages are revoked, one at a time
unfoldable pub after_revoking : ℕ → List Row → List Row
after_revoking zero rows = rows
after_revoking (suc n) rows = after_revoking n (paid rows (first_claim rows))

-- The list of targets that there is: `AreTargets` holds of it, and of no other list.
unfoldable pub targets_of : List Row → ℕ → List ℕ
targets_of rows need = map (λ (row : Row). row.pages) (after_revoking need (map (λ (row : Row). with_pages row (held row)) rows))
