-- Laws of the ratio's order and of targets.
use Rattle.std.specs.Prelude.{◌≡◌, ℕ, ◌<◌, ◌≤◌, ◌⊎◌, ◌↔◌, IsTrue, MatchOption, List, option_map}
use Rattle.std.specs.List.{AllByRecursion}
use Rattle.esx_types.specs.declared.config.TheConstants.{MAX_TAU}
use Rattle.esx_formulas.specs.declared.targets.Row.{Row}
use Rattle.esx_formulas.specs.Ratio.{Claim, claim, ComesNoLater, IsRow, AreRows, AreAtFloor, HasLeastRatio}
use Rattle.esx_formulas.specs.Targets.{AreTargets, comes_no_later, first_claim, targets_of}
use Rattle.esx_formulas.specs.v1.Targets as v1

-- the ratio of some row at some pages
pub record IsClaim (c : Claim) : Type 0 where
  pub row : Row
  pub good : IsRow row
  pub pages : ℕ
  pub some : 0 < pages
  pub is : c ≡ claim row pages

-- ratios stand in one order, in which only those of one machine stand at one place, and a machine with more pages comes no later
pub record AreRatiosOrdered : Type 0 where
  pub self : (a : Claim) → ComesNoLater a a
  pub chain : (a b c : Claim) → IsClaim a → IsClaim b → IsClaim c → ComesNoLater a b → ComesNoLater b c → ComesNoLater a c
  pub either : (a b : Claim) → ComesNoLater a b ⊎ ComesNoLater b a
  pub apart : (a b : Claim) → ComesNoLater a b → ComesNoLater b a → a.vm ≡ b.vm
  pub more : (row : Row) (more fewer : ℕ) → fewer ≤ more → ComesNoLater (claim row more) (claim row fewer)

abbrev pub IsOneListOfTargets : Type 0
IsOneListOfTargets = (rows : List Row) (need : ℕ) (a b : List ℕ) → AreRows rows →
    AreTargets rows need a → AreTargets rows need b → a ≡ b

abbrev pub HasTargetsForEachNeed : Type 0
HasTargetsForEachNeed = (rows : List Row) (need : ℕ) → AreRows rows →
    (targets : List ℕ) × AreTargets rows need targets

-- the order of ratios as a test says what the order says
abbrev pub IsTestOfOrder : Type 0
IsTestOfOrder = (a b : Claim) → IsTrue (comes_no_later a b) ↔ ComesNoLater a b

-- the first claim is that of a machine of least ratio, and there is none where no row has pages above its floor
abbrev pub IsFirstClaimLeast : Type 0
IsFirstClaimLeast = (rows : List Row) → AreRows rows →
    MatchOption (first_claim rows) (AreAtFloor rows) (λ a. HasLeastRatio rows a.vm)

-- the list worked out page by page are targets, and no other list is
abbrev pub AreTargetsPageByPage : Type 0
AreTargetsPageByPage = (rows : List Row) (need : ℕ) (targets : List ℕ) → AreRows rows →
    AreTargets rows need targets ↔ targets ≡ targets_of rows need

-- each row has that tax
abbrev pub AreTaxed : ℕ → List Row → Type 0
AreTaxed tau rows = AllByRecursion (λ (row : Row). row.tau ≡ tau) rows

-- where one tax is common the factor of each ratio cancels: version 1 takes pages from the same machines
pub record DoesCommonTaxCancel : Type 0 where
  pub payer : (tau : ℕ) (rows : List Row) → tau ≤ MAX_TAU → AreTaxed tau rows →
      option_map (λ (a : Claim). a.vm) (first_claim rows) ≡ option_map (λ (a : Claim). a.vm) (v1.first_claim tau rows)
  pub targets : (tau : ℕ) (rows : List Row) (need : ℕ) → tau ≤ MAX_TAU → AreTaxed tau rows → targets_of rows need ≡ v1.targets_of tau rows need
