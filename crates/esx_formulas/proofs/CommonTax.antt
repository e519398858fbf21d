-- Where one tax is common to all rows, each ratio has the same factor, and the order is that without it.
use Rattle.std.proofs.Common.{◌≡◌, ℕ, zero, suc, ◌-◌, ◌*◌, ◌<◌, ◌≤◌, Bool, true, false, ◌==◌, nat_lt, cond, List, [], ◌∷◌, map, refl, sym, ap, ◌∙◌, Option, Some, None, inl, inr, arith}
use Rattle.std.specs.Prelude.{fold, option_map}
use Rattle.std.proofs.Math.Nat.{mul_right_comm, mul-lt-mul_of_pos_right, mul-le-mul_right}
use Rattle.std.proofs.lemmas.Bool.{cases_lt, lt-ltb, le-ltb}
use Rattle.std.proofs.lemmas.Bool.Decides.{nat_tests}
use Rattle.esx_types.specs.declared.config.TheConstants.{MAX_TAU}
use Rattle.esx_formulas.specs.declared.targets.Row.{Row}
use Rattle.esx_formulas.specs.Ratio.{Claim, claim}
use Rattle.esx_formulas.specs.Targets.{held, comes_no_later, sooner, first_claim, with_pages, paid, after_revoking, targets_of}
use Rattle.esx_formulas.specs.v1.Targets as v1
use Rattle.esx_formulas.specs.ShareLaws.{AreTaxed}

less_scaled : (k x y : ℕ) → 0 < k → nat_lt (x * k) (y * k) ≡ nat_lt x y
less_scaled k x y pos =
    elim (cases_lt x y) [
      | inl p ↦ (let q : x * k < y * k = mul-lt-mul_of_pos_right p pos in lt-ltb _ _ q ∙ sym (lt-ltb _ _ p))
      | inr p ↦ (let q : y * k ≤ x * k = mul-le-mul_right k p in le-ltb _ _ q ∙ sym (le-ltb _ _ p))
    ]

apart_below : (x y : ℕ) → x < y → (x == y) ≡ false
apart_below x y p = grind (arith, nat_tests)

apart_above : (x y : ℕ) → y < x → (x == y) ≡ false
apart_above x y p = grind (arith, nat_tests)

equal_scaled : (k x y : ℕ) → 0 < k → (x * k == y * k) ≡ (x == y)
equal_scaled k x y pos =
    elim (cases_lt x y) [
      | inl p ↦ (let q : x * k < y * k = mul-lt-mul_of_pos_right p pos in apart_below _ _ q ∙ sym (apart_below _ _ p))
      | inr p ↦ elim (cases_lt y x) [
        | inl r ↦ (let q : y * k < x * k = mul-lt-mul_of_pos_right r pos in apart_above _ _ q ∙ sym (apart_above _ _ r))
        | inr r ↦ (let e : x ≡ y = omega arith in rw e (same (y * k) ∙ sym (same y)))
      ]
    ]
  where
    same : (n : ℕ) → (n == n) ≡ true
    same n = grind (arith, nat_tests)

-- a claim with a factor
abbrev scaled : ℕ → Claim → Claim
scaled k a = record { vm = a.vm; over = a.over * k; under = a.under }

order_scaled : (k : ℕ) (a b : Claim) → 0 < k → comes_no_later (scaled k a) (scaled k b) ≡ comes_no_later a b
order_scaled k a b pos =
    rw (mul_right_comm a.over k b.under, mul_right_comm b.over k a.under, less_scaled k (a.over * b.under) (b.over * a.under) pos, equal_scaled k (a.over * b.under) (b.over * a.under) pos) refl

sooner_scaled : (k : ℕ) (o : Option Claim) (b : Claim) → 0 < k → sooner (option_map (scaled k) o) (scaled k b) ≡ option_map (scaled k) (sooner o b)
sooner_scaled k None b pos = refl
sooner_scaled k (Some a) b pos =
    ap (λ t. cond t (Some (scaled k a)) (Some (scaled k b))) (order_scaled k a b pos) ∙ of (comes_no_later a b)
  where
    of : (t : Bool) → cond t (Some (scaled k a)) (Some (scaled k b)) ≡ option_map (scaled k) (cond t (Some a) (Some b))
    of true = refl
    of false = refl

module _ (tau : ℕ) (most : tau ≤ MAX_TAU) where
  factor : 0 < 100 - tau
  factor = omega arith

  claim_scaled : (row : Row) (pages : ℕ) → row.tau ≡ tau → claim row pages ≡ scaled (100 - tau) (v1.claim tau row pages)
  claim_scaled row pages e = rw e refl

  judged : Option Claim → Row → Option Claim
  judged best row = cond (nat_lt row.floor row.pages) (sooner best (claim row row.pages)) best

  judged_before : Option Claim → Row → Option Claim
  judged_before best row = cond (nat_lt row.floor row.pages) (sooner best (v1.claim tau row row.pages)) best

  one_scaled : (row : Row) (best : Option Claim) → row.tau ≡ tau → judged (option_map (scaled (100 - tau)) best) row ≡ option_map (scaled (100 - tau)) (judged_before best row)
  unfolding judged judged_before
  one_scaled row best e =
      ap (λ a. cond (nat_lt row.floor row.pages) (sooner (option_map (scaled (100 - tau)) best) a) (option_map (scaled (100 - tau)) best)) (claim_scaled row row.pages e)
      ∙ ap (λ o. cond (nat_lt row.floor row.pages) o (option_map (scaled (100 - tau)) best)) (sooner_scaled (100 - tau) best (v1.claim tau row row.pages) factor)
      ∙ of (nat_lt row.floor row.pages)
    where
      of : (t : Bool) → cond t (option_map (scaled (100 - tau)) (sooner best (v1.claim tau row row.pages))) (option_map (scaled (100 - tau)) best)
          ≡ option_map (scaled (100 - tau)) (cond t (sooner best (v1.claim tau row row.pages)) best)
      of true = refl
      of false = refl

  fold_scaled : (rows : List Row) (best : Option Claim) → AreTaxed tau rows →
      fold judged (option_map (scaled (100 - tau)) best) rows ≡ option_map (scaled (100 - tau)) (fold judged_before best rows)
  fold_scaled [] best taxed = refl
  fold_scaled (row ∷ rows) best taxed = ap (λ o. fold judged o rows) (one_scaled row best taxed.0) ∙ fold_scaled rows (judged_before best row) taxed.1

  first_scaled : (rows : List Row) → AreTaxed tau rows → first_claim rows ≡ option_map (scaled (100 - tau)) (v1.first_claim tau rows)
  unfolding first_claim v1.first_claim judged judged_before
  first_scaled rows taxed = fold_scaled rows None taxed

  pub same_payer_of : (rows : List Row) → AreTaxed tau rows → option_map (λ (a : Claim). a.vm) (first_claim rows) ≡ option_map (λ (a : Claim). a.vm) (v1.first_claim tau rows)
  same_payer_of rows taxed = ap (option_map (λ (a : Claim). a.vm)) (first_scaled rows taxed) ∙ of (v1.first_claim tau rows)
    where
      of : (o : Option Claim) → option_map (λ (a : Claim). a.vm) (option_map (scaled (100 - tau)) o) ≡ option_map (λ (a : Claim). a.vm) o
      of None = refl
      of (Some a) = refl

  -- what is paid hangs on the machine alone
  paid_scaled : (rows : List Row) (o : Option Claim) → paid rows (option_map (scaled (100 - tau)) o) ≡ paid rows o
  paid_scaled rows None = refl
  paid_scaled rows (Some a) = refl

  one_paid : (a : Claim) (row : Row) (t : Bool) → row.tau ≡ tau → (cond t (with_pages row (row.pages - 1)) row).tau ≡ tau
  one_paid a row true e = e
  one_paid a row false e = e

  paid_taxed : (rows : List Row) (o : Option Claim) → AreTaxed tau rows → AreTaxed tau (paid rows o)
  paid_taxed rows None taxed = taxed
  paid_taxed [] (Some a) taxed = tt
  paid_taxed (row ∷ rows) (Some a) taxed = (one_paid a row (row.vm == a.vm) taxed.0, paid_taxed rows (Some a) taxed.1)

  begin_taxed : (rows : List Row) → AreTaxed tau rows → AreTaxed tau (map (λ (row : Row). with_pages row (held row)) rows)
  begin_taxed [] taxed = tt
  begin_taxed (row ∷ rows) taxed = (taxed.0, begin_taxed rows taxed.1)

  revoked_alike : (n : ℕ) (rows : List Row) → AreTaxed tau rows → after_revoking n rows ≡ v1.after_revoking tau n rows
  unfolding after_revoking v1.after_revoking
  revoked_alike zero rows taxed = refl
  revoked_alike (suc n) rows taxed =
      let step : paid rows (first_claim rows) ≡ paid rows (v1.first_claim tau rows) = ap (paid rows) (first_scaled rows taxed) ∙ paid_scaled rows (v1.first_claim tau rows) in
      ap (after_revoking n) step ∙ revoked_alike n (paid rows (v1.first_claim tau rows)) (paid_taxed rows (v1.first_claim tau rows) taxed)

  same_targets_of : (rows : List Row) (need : ℕ) → AreTaxed tau rows → targets_of rows need ≡ v1.targets_of tau rows need
  unfolding targets_of v1.targets_of
  same_targets_of rows need taxed =
      ap (map (λ (row : Row). row.pages)) (revoked_alike need (map (λ (row : Row). with_pages row (held row)) rows) (begin_taxed rows taxed))

pub same_payer : (tau : ℕ) (rows : List Row) → tau ≤ MAX_TAU → AreTaxed tau rows → option_map (λ (a : Claim). a.vm) (first_claim rows) ≡ option_map (λ (a : Claim). a.vm) (v1.first_claim tau rows)
same_payer tau rows most taxed = same_payer_of tau most rows taxed

pub same_targets : (tau : ℕ) (rows : List Row) (need : ℕ) → tau ≤ MAX_TAU → AreTaxed tau rows → targets_of rows need ≡ v1.targets_of tau rows need
same_targets tau rows need most taxed = same_targets_of tau most rows need taxed
