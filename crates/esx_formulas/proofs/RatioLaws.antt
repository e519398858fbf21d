-- The tax that a machine pays, and the order of ratios: it is total, chains, and knows two machines apart; and fewer pages come later.
use Rattle.std.proofs.Common.{◌≡◌, ℕ, ◌-◌, ◌*◌, ◌<◌, ◌≤◌, ◌⊎◌, inl, inr, arith, Option, Some, None}
use Rattle.std.proofs.lemmas.Bool.{cases_lt}
use Rattle.std.proofs.Math.Nat.{mul-le-mul, mul-le-mul_left, mul-le-mul_right, mul-lt-mul_of_pos_right}
use Rattle.esx_types.specs.declared.config.TheConstants.{MAX_TAU}
use Rattle.esx_types.specs.Ranges.{IsTax}
use Rattle.esx_formulas.specs.declared.targets.Row.{Row}
use Rattle.esx_formulas.specs.declared.activity.TheConstants.{WHOLE}
use Rattle.esx_formulas.specs.declared.ratio.TheConstants.{WHOLE_PRICE}
use Rattle.esx_formulas.specs.Ratio.{tax_of, Claim, claim, ComesNoLater, IsRow}
use Rattle.esx_formulas.proofs.Fractions.{cross_chain, cross_tie_first, cross_tie_last}

-- what a machine pays is a tax
pub tax_most : (common : ℕ) (own : Option ℕ) → common ≤ MAX_TAU → IsTax own → tax_of common own ≤ MAX_TAU
tax_most common None low good = low
tax_most common (Some tau) low good = good

pub no_later_self : (a : Claim) → ComesNoLater a a
no_later_self a = record { ratio = omega arith; tie = λ e. omega arith }

pub no_later_chain : (a b c : Claim) → 0 < a.under → 0 < b.under → 0 < c.under → ComesNoLater a b → ComesNoLater b c → ComesNoLater a c
no_later_chain a b c pa pb pc p q = record {
  ratio = cross_chain a.over a.under b.over b.under c.over c.under pb p.ratio q.ratio;
  tie = λ e.
      let left : a.vm ≤ b.vm = p.tie (cross_tie_first a.over a.under b.over b.under c.over c.under pc p.ratio q.ratio e) in
      let right : b.vm ≤ c.vm = q.tie (cross_tie_last a.over a.under b.over b.under c.over c.under pa p.ratio q.ratio e) in
      omega arith;
}

-- one of two claims comes no later than the other
pub no_later_either : (a b : Claim) → ComesNoLater a b ⊎ ComesNoLater b a
no_later_either a b =
    elim (cases_lt (a.over * b.under) (b.over * a.under)) [
      | inl p ↦ inl (record { ratio = omega arith; tie = λ e. absurd (omega arith) })
      | inr p ↦ elim (cases_lt (b.over * a.under) (a.over * b.under)) [
        | inl q ↦ inr (record { ratio = omega arith; tie = λ e. absurd (omega arith) })
        | inr q ↦ elim (cases_lt a.vm b.vm) [
          | inl r ↦ inl (record { ratio = omega arith; tie = λ e. omega arith })
          | inr r ↦ inr (record { ratio = omega arith; tie = λ e. r })
        ]
      ]
    ]

-- claims that come no later than each other are one machine's
pub no_later_same : (a b : Claim) → ComesNoLater a b → ComesNoLater b a → a.vm ≡ b.vm
no_later_same a b p q =
    let e : a.over * b.under ≡ b.over * a.under = omega (arith, p.ratio, q.ratio) in
    let l : a.vm ≤ b.vm = p.tie e in
    let r : b.vm ≤ a.vm = q.tie (omega arith) in
    omega arith

-- a page has its price
pub price_above_none : (tau active : ℕ) → tau ≤ MAX_TAU → active ≤ WHOLE → 0 < WHOLE_PRICE - tau * active
price_above_none tau active p q =
    let r : tau * active ≤ MAX_TAU * WHOLE = mul-le-mul p q in omega arith

pub claim_above_none : (row : Row) (pages : ℕ) → IsRow row → 0 < pages → 0 < (claim row pages).under
claim_above_none row pages good some =
    let price : 0 < WHOLE_PRICE - row.tau * row.active = price_above_none row.tau row.active good.most_tau good.most_active in
    let s : 0 * (WHOLE_PRICE - row.tau * row.active) < pages * (WHOLE_PRICE - row.tau * row.active) = mul-lt-mul_of_pos_right some price in
    omega arith

-- a machine's ratio with more pages comes no later
pub more_pages_no_later : (row : Row) (more fewer : ℕ) → fewer ≤ more → ComesNoLater (claim row more) (claim row fewer)
more_pages_no_later row more fewer p =
    let price : fewer * (WHOLE_PRICE - row.tau * row.active) ≤ more * (WHOLE_PRICE - row.tau * row.active) = mul-le-mul_right (WHOLE_PRICE - row.tau * row.active) p in
    record { ratio = mul-le-mul_left (row.shares * (100 - row.tau)) price; tie = λ e. omega arith }
