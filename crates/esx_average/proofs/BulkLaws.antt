-- Where all pages that cost more than a limit are revoked, and these are no more than are needed, none is revoked that the targets leave.
use Rattle.std.proofs.Common.{◌≡◌, ℕ, suc, ◌+◌, ◌-◌, ◌*◌, ◌/◌, ◌<◌, ◌≤◌, List, [], ◌∷◌, length, get_or, refl, sym, ◌∙◌, inl, inr, arith}
use Rattle.std.proofs.Math.Nat.{mul-le-mul, mul-le-mul_left, div-mul-le_self, div-lt_iff_lt-mul, mul-le-mul_right}
use Rattle.std.proofs.lemmas.Bool.{cases_lt, cases_eq}
use Rattle.esx_formulas.specs.declared.targets.Row.{Row}
use Rattle.esx_formulas.specs.declared.ratio.TheConstants.{WHOLE_PRICE}
use Rattle.esx_formulas.specs.Ratio.{claim, ComesNoLater, IsRow, AreRows, row_at}
use Rattle.esx_formulas.specs.Targets.{held, AreTargets}
use Rattle.esx_formulas.proofs.Gaps.{gap, AreBelow, below_from_places, below_length, below_at, gap_chain, gap-at-le}
use Rattle.esx_formulas.proofs.RatioLaws.{price_above_none}
use Rattle.esx_formulas.proofs.TargetLaws.{all_held, revoked_is_gap, held_at, below_held}
use Rattle.esx_average.specs.declared.bulk.TheConstants.{PARTS}
use Rattle.esx_average.specs.Bulk.{kept, dearer, AreKept, WereRevoked}
use Rattle.esx_average.proofs.ChunkLaws.{IsPartial, partial_count}

abbrev weight : Row → ℕ
weight row = row.shares * (100 - row.tau)

abbrev price : Row → ℕ
price row = WHOLE_PRICE - row.tau * row.active

weight_above_none : (row : Row) → IsRow row → 1 ≤ weight row
weight_above_none row good =
    let left : 1 ≤ 100 - row.tau = omega (arith, good.most_tau) in
    mul-le-mul good.least_shares left

-- of two products over one unit the order is that without it
same_unit : (a b c d : ℕ) → a * b ≤ c * d → a * (b * PARTS) ≤ c * (d * PARTS)
same_unit a b c d p = omega arith

-- a page that costs more than a limit comes before one that does not
clash_of : (over_i under_i over_j under_j limit : ℕ) → 1 ≤ over_j → over_j * under_i ≤ over_i * under_j → under_j ≤ over_j * limit → over_i * limit < under_i → ⊥
clash_of over_i under_i over_j under_j limit some fair cheap dear =
    let a : over_i * under_j ≤ over_i * (over_j * limit) = mul-le-mul_left over_i cheap in
    let b : over_j * (over_i * limit + 1) ≤ over_j * under_i = mul-le-mul_left over_j (omega arith) in
    absurd (omega arith)

-- how many pages are kept of those that cost no more
cheap_page : (product price n : ℕ) → n ≤ product / price → n * price ≤ product
cheap_page product price n p =
    let a : n * price ≤ product / price * price = mul-le-mul_right price p in
    let b : product / price * price ≤ product = div-mul-le_self product price in
    omega arith

dear_page : (product price n : ℕ) → 0 < price → product / price < n → product < n * price
dear_page product price n pos p = (div-lt_iff_lt-mul pos).0 p

clash : (a b : Row) (m n limit : ℕ) → IsRow a → IsRow b → weight b * (m * price a) ≤ weight a * (n * price b) →
    n ≤ weight b * limit / (price b * PARTS) → weight a * limit / (price a * PARTS) < m → ⊥
clash a b m n limit good_a good_b fair cheap dear =
    let pos : 0 < price a = price_above_none a.tau a.active good_a.most_tau good_a.most_active in
    clash_of (weight a) (m * (price a * PARTS)) (weight b) (n * (price b * PARTS)) limit (weight_above_none b good_b)
    (omega (arith, same_unit (weight b) (m * price a) (weight a) (n * price b) fair))
    (cheap_page (weight b * limit) (price b * PARTS) n cheap)
    (dear_page (weight a * limit) (price a * PARTS) m (omega arith) dear)

-- what is revoked is how far the rows fall
dearer_is_gap : (rows : List Row) (limit : ℕ) (t after : List ℕ) → length t ≡ length rows → AreKept rows limit t after →
    dearer rows limit t ≡ gap t after
dearer_is_gap [] limit [] after e k = refl
dearer_is_gap [] limit (x ∷ xs) after e k = absurd (omega arith)
dearer_is_gap (row ∷ rows) limit [] after e k = absurd (omega arith)
dearer_is_gap (row ∷ rows) limit (x ∷ xs) [] e k = absurd (omega (arith, k.count))
dearer_is_gap (row ∷ rows) limit (x ∷ xs) (y ∷ ys) e k =
    let here : y ≡ kept row limit x = k.each 0 (omega arith) in
    let rest : dearer rows limit xs ≡ gap xs ys =
    dearer_is_gap rows limit xs ys (omega arith) (record { count = omega (arith, k.count); each = λ i p. k.each (suc i) (omega arith) }) in
    rw (here, rest) refl

module _ (rows : List Row) (are : AreRows rows) (need : ℕ) (t after : List ℕ) (left limit : ℕ)
    (h : IsPartial rows need t left) (k : AreKept rows limit t after) where
  count : length t ≡ length rows
  count = partial_count rows need t left h

  falls : AreBelow after t
  falls = below_from_places after t (k.count ∙ sym count) (λ i p. omega (arith, k.each i (omega (arith, count))))

  held_gap : gap (all_held rows) after ≡ gap (all_held rows) t + gap t after
  held_gap = gap_chain (all_held rows) t after h.below falls

  module _ (fits : gap t after ≤ left) (targets : List ℕ) (are_targets : AreTargets rows need targets) where
    -- where one row fell below its target, none is left above its target
    others : (i j : ℕ) → i < length rows → j < length rows → get_or after i 0 < get_or targets i 0 → get_or targets j 0 < get_or after j 0 → ⊥
    others i j p q far near =
        let target_i : get_or targets i 0 ≤ get_or t i 0 = below_at targets t i (h.safe targets are_targets) in
        let held_j : get_or t j 0 ≤ held (row_at rows j) = omega (arith, below_at t (all_held rows) j h.below, held_at rows j q) in
        let dear : weight (row_at rows i) * limit / (price (row_at rows i) * PARTS) < get_or targets i 0 = omega (arith, k.each i p) in
        let above : (row_at rows i).floor < get_or targets i 0 = omega (arith, k.each i p) in
        let cheap : get_or targets j 0 + 1 ≤ weight (row_at rows j) * limit / (price (row_at rows j) * PARTS) = omega (arith, k.each j q, are_targets.least j q) in
        let paid : get_or targets j 0 < held (row_at rows j) = omega (arith, k.each j q) in
        let fair : ComesNoLater (claim (row_at rows j) (get_or targets j 0 + 1)) (claim (row_at rows i) (get_or targets i 0)) =
        are_targets.fair j i q p paid above in
        clash (row_at rows i) (row_at rows j) (get_or targets i 0) (get_or targets j 0 + 1) limit (are.each i p) (are.each j q) fair.ratio cheap dear

    -- so no row fell below its target
    stays : (i : ℕ) → i < length rows → get_or targets i 0 ≤ get_or after i 0
    stays i p =
        elim (cases_lt (get_or after i 0) (get_or targets i 0)) [
          | inr q ↦ q
          | inl far ↦
              let all : (j : ℕ) → j < length targets → get_or after j 0 ≤ get_or targets j 0 =
              λ j q. elim (cases_lt (get_or targets j 0) (get_or after j 0)) [
                | inl near ↦ absurd (others i j p (omega (arith, are_targets.count)) far near)
                | inr r ↦ r
              ] in
              let below : AreBelow after targets = below_from_places after targets (k.count ∙ sym are_targets.count) all in
              let chain : gap (all_held rows) after ≡ gap (all_held rows) targets + gap targets after =
              gap_chain (all_held rows) targets after (below_held need rows targets are_targets) below in
              let part : get_or targets i 0 - get_or after i 0 ≤ gap targets after = gap-at-le targets after i (omega (arith, k.count)) in
              absurd (omega (arith, held_gap, h.sum, are_targets.total, revoked_is_gap rows t, revoked_is_gap rows targets))
        ]

  bulk_after : (pages : ℕ) → pages ≡ dearer rows limit t → pages ≤ left → IsPartial rows need after (left - pages)
  bulk_after pages sum fits =
      let is_gap : pages ≡ gap t after = sum ∙ dearer_is_gap rows limit t after count k in
      record {
        below = below_from_places after (all_held rows) (below_length after t falls ∙ below_length t (all_held rows) h.below)
            (λ i p. omega (arith, below_at after t i falls, below_at t (all_held rows) i h.below));
        sum = omega (arith, h.sum, held_gap, revoked_is_gap rows t, revoked_is_gap rows after);
        safe = λ targets are_targets. below_from_places targets after (are_targets.count ∙ sym k.count)
            (λ i p. stays (omega arith) targets are_targets i (omega (arith, k.count)));
      }

-- many pages at once were revoked, or none
pub partial_bulk : (rows : List Row) (need : ℕ) (t after : List ℕ) (left pages : ℕ) → AreRows rows → IsPartial rows need t left →
    pages ≤ left → (pages ≡ 0 → after ≡ t) → (0 < pages → WereRevoked rows t after pages) → IsPartial rows need after (left - pages)
partial_bulk rows need t after left pages are h fits none some =
    elim (cases_eq pages 0) [
      | inl e ↦
          let same : left - pages ≡ left = omega arith in
          rw (none e, same) h
      | inr ne ↦
          let were : WereRevoked rows t after pages = some (omega arith) in
          bulk_after rows are need t after left were.limit h were.rest pages were.sum fits
    ]
