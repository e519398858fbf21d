-- The order of ratios as a test, and the ratio that comes first of all rows.
use Rattle.std.proofs.Common.{◌≡◌, ℕ, zero, suc, ◌+◌, ◌*◌, ◌<◌, ◌≤◌, true, false, ◌&&◌, ◌==◌, nat_lt, nat_le, cond, List, length, take, refl, sym, ap, ◌∙◌, Option, Some, None, inl, inr, add-one, arith}
use Rattle.std.specs.Prelude.{fold, option_map, MatchOption}
use Rattle.std.proofs.Math.Seq.{take-length}
use Rattle.std.proofs.lemmas.Bool.{cases_lt, lt-ltb, le-leb, eq-eqb, or_cases, or_parts, or_left, or_right, and_parts, and_from, and_cases, cond_both, ltb-true, ltb-false, leb-true, leb-false, eqb-true, eqb-false}
use Rattle.std.proofs.lemmas.List.Sums.{fold_more}
use Rattle.esx_formulas.specs.declared.targets.Row.{Row}
use Rattle.esx_formulas.specs.Ratio.{Claim, claim, ComesNoLater, AreRows, AreAtFloor, HasLeastRatio, row_at, no_row}
use Rattle.esx_formulas.specs.Targets.{comes_no_later, sooner, first_claim}
use Rattle.esx_formulas.specs.Payers.{IsFirstBelow, AreNoneBelow, IsBestBelow}
use Rattle.esx_formulas.proofs.RatioLaws.{no_later_same}
use Rattle.esx_formulas.proofs.PayerLaws.{none_skips, none_takes, first_skips, first_keeps, first_yields}

pub comes_from_test : (a b : Claim) → comes_no_later a b ≡ true → ComesNoLater a b
comes_from_test a b e =
    elim (or_cases (nat_lt (a.over * b.under) (b.over * a.under)) ((a.over * b.under == b.over * a.under) && nat_le a.vm b.vm) e) [
      | inl p ↦
          let less : a.over * b.under < b.over * a.under = ltb-true _ _ p in
          record { ratio = omega arith; tie = λ same. absurd (omega arith) }
      | inr p ↦
          let both = and_parts (a.over * b.under == b.over * a.under) (nat_le a.vm b.vm) p in
          let same : a.over * b.under ≡ b.over * a.under = eqb-true _ _ both.0 in
          record { ratio = omega arith; tie = λ e. leb-true _ _ both.1 }
    ]

pub comes_from_no_test : (a b : Claim) → comes_no_later a b ≡ false → ComesNoLater b a
comes_from_no_test a b e =
    let neither = or_parts (nat_lt (a.over * b.under) (b.over * a.under)) ((a.over * b.under == b.over * a.under) && nat_le a.vm b.vm) e in
    let more : b.over * a.under ≤ a.over * b.under = ltb-false _ _ neither.0 in
    record {
      ratio = more;
      tie = λ same. elim (and_cases (a.over * b.under == b.over * a.under) (nat_le a.vm b.vm) neither.1) [
        | inl p ↦ absurd (eqb-false _ _ p (sym same))
        | inr p ↦ let less : b.vm < a.vm = leb-false _ _ p in omega arith
      ];
    }

pub test_from_comes : (a b : Claim) → ComesNoLater a b → comes_no_later a b ≡ true
test_from_comes a b h =
    elim (cases_lt (a.over * b.under) (b.over * a.under)) [
      | inl p ↦ or_left _ _ (lt-ltb _ _ p)
      | inr p ↦
          let same : a.over * b.under ≡ b.over * a.under = omega (arith, h.ratio) in
          or_right _ _ (and_from _ _ (eq-eqb _ _ same) (le-leb _ _ (h.tie same)))
    ]

module _ (rows : List Row) where
  abbrev pub own_pages : ℕ → ℕ
  own_pages i = (row_at rows i).pages

  -- the claim of the row that comes first of n rows
  pub record IsFirstClaim (n : ℕ) (a : Claim) : Type 0 where
    pub at : ℕ
    pub first : IsFirstBelow rows own_pages n at
    pub is : a ≡ claim (row_at rows at) (own_pages at)

  -- what is found in n rows
  abbrev pub IsFound : ℕ → Option Claim → Type 0
  IsFound n None = AreNoneBelow rows own_pages n
  IsFound n (Some a) = IsFirstClaim n a

  abbrev judged : Option Claim → Row → Option Claim
  judged best row = cond (nat_lt row.floor row.pages) (sooner best (claim row row.pages)) best

  found_skips : (n : ℕ) (best : Option Claim) → IsFound n best → own_pages n ≤ (row_at rows n).floor → IsFound (n + 1) best
  found_skips n None h below = none_skips rows own_pages n h below
  found_skips n (Some a) h below = record { at = h.at; first = first_skips rows own_pages n h.at h.first below; is = h.is }

  module _ (are : AreRows rows) where
    found_takes : (n : ℕ) (best : Option Claim) → n < length rows → IsFound n best → (row_at rows n).floor < own_pages n → IsFound (n + 1) (sooner best (claim (row_at rows n) (own_pages n)))
    found_takes n None fits h above = record { at = n; first = none_takes rows own_pages n h above; is = refl }
    found_takes n (Some a) fits h above =
        let new = claim (row_at rows n) (own_pages n) in
        cond_both (comes_no_later a new) (Some a) (Some new) (IsFound (n + 1))
        (λ e. record { at = h.at; first = first_keeps rows own_pages n h.at h.first (rw (← h.is) (comes_from_test a new e)); is = h.is })
        (λ e. record { at = n; first = first_yields rows own_pages n h.at are fits h.first above (rw (← h.is) (comes_from_no_test a new e)); is = refl })

    found_more : (n : ℕ) (best : Option Claim) → n < length rows → IsFound n best → IsFound (n + 1) (judged best (row_at rows n))
    found_more n best fits h =
        cond_both (nat_lt (row_at rows n).floor (own_pages n)) (sooner best (claim (row_at rows n) (own_pages n))) best (IsFound (n + 1))
        (λ e. found_takes n best fits h (ltb-true _ _ e))
        (λ e. found_skips n best h (ltb-false _ _ e))

    found_within : (n : ℕ) → n ≤ length rows → IsFound n (fold judged None (take n rows))
    found_within zero fits = record { none = λ j p. absurd (omega arith) }
    found_within (suc n) fits =
        rw (← add-one, fold_more judged None rows n no_row (omega arith)) (found_more n (fold judged None (take n rows)) (omega arith) (found_within n (omega arith)))

    -- the first claim is that of the row that comes first
    pub first_found : IsFound (length rows) (first_claim rows)
    unfolding first_claim
    first_found = rw (take-length rows) at (found_within (length rows) (omega arith))

  -- what a search by place finds is the machine of the claim that is found
  pub same_machine : (n : ℕ) (best : Option ℕ) (o : Option Claim) → IsBestBelow rows own_pages n best → IsFound n o →
      option_map (λ i. (row_at rows i).vm) best ≡ option_map (λ (a : Claim). a.vm) o
  same_machine n None None h f = refl
  same_machine n None (Some a) h f = absurd (omega (arith, h.none f.at f.first.within, f.first.above))
  same_machine n (Some i) None h f = absurd (omega (arith, f.none i h.within, h.above))
  same_machine n (Some i) (Some a) h f =
      let same : (row_at rows i).vm ≡ (row_at rows f.at).vm =
      no_later_same (claim (row_at rows i) (own_pages i)) (claim (row_at rows f.at) (own_pages f.at))
      (h.first f.at f.first.within f.first.above) (f.first.first i h.within h.above) in
      ap (λ v. let o : Option ℕ = Some v in o) (same ∙ ap (λ (c : Claim). c.vm) (sym f.is))

  -- the claim that is found has the least ratio
  pub least_of_found : (o : Option Claim) → IsFound (length rows) o → MatchOption o (AreAtFloor rows) (λ a. HasLeastRatio rows a.vm)
  least_of_found None h = record { none = h.none }
  least_of_found (Some a) h = record {
    at = h.at;
    least = record { within = h.first.within; above = h.first.above; first = h.first.first };
    is = ap (λ (c : Claim). c.vm) (sym h.is);
  }
