-- Targets: how they begin, how one more page is revoked, that there are some for every need, and that there is one list of them.
use Rattle.std.proofs.Common.{◌≡◌, ◌≢◌, ℕ, zero, suc, ◌+◌, ◌-◌, ◌<◌, ◌≤◌, List, [], ◌∷◌, length, get_or, set, map, refl, sym, ap, ◌∙◌, inl, inr, add-one, arith, get_or-set_same, get_or-set_other}
use Rattle.std.proofs.lemmas.Bool.{cases_eq, cases_order}
use Rattle.std.proofs.lemmas.List.{length-map, length-set, get_or-map}
use Rattle.std.proofs.lemmas.List.Sums.{sum_by-cons}
use Rattle.std.specs.Prelude.{sum_by}
use Rattle.esx_formulas.specs.declared.targets.Row.{Row}
use Rattle.esx_formulas.specs.Ratio.{claim, ComesNoLater, AreRows, row_at, no_row}
use Rattle.esx_formulas.specs.Targets.{held, spare, revoked, AreTargets}
use Rattle.esx_formulas.proofs.Gaps.{gap, AreBelow, below_from_places, below_or_above, gap_chain, gap_of_equal, equal_from_gap, gap-at-le, gap-set, gap-none}
use Rattle.esx_formulas.proofs.RatioLaws.{no_later_chain, no_later_same, more_pages_no_later, claim_above_none}
use Rattle.esx_formulas.specs.Payers.{IsFirstBelow, AreNoneBelow}
use Rattle.esx_formulas.proofs.PayerLaws.{first_or_none}

abbrev pub all_held : List Row → List ℕ
all_held rows = map held rows

abbrev pub floor_of : Row → ℕ
floor_of row = row.floor

abbrev pub all_floors : List Row → List ℕ
all_floors rows = map floor_of rows

pub revoked_is_gap : (rows : List Row) (targets : List ℕ) → revoked rows targets ≡ gap (all_held rows) targets
revoked_is_gap [] targets = refl
revoked_is_gap (row ∷ rows) [] = refl
revoked_is_gap (row ∷ rows) (target ∷ targets) = ap (λ n. (held row - target) + n) (revoked_is_gap rows targets)

pub spare_is_gap : (rows : List Row) → sum_by spare rows ≡ gap (all_held rows) (all_floors rows)
spare_is_gap [] = refl
spare_is_gap (row ∷ rows) = omega (arith, sum_by-cons spare row rows, spare_is_gap rows)

pub held_at : (rows : List Row) (i : ℕ) → i < length rows → get_or (all_held rows) i 0 ≡ held (row_at rows i)
held_at rows i p = get_or-map held rows i no_row 0 p

pub floor_at : (rows : List Row) (i : ℕ) → i < length rows → get_or (all_floors rows) i 0 ≡ (row_at rows i).floor
floor_at rows i p = get_or-map floor_of rows i no_row 0 p

pub below_held : (need : ℕ) (rows : List Row) (t : List ℕ) → AreTargets rows need t → AreBelow t (all_held rows)
below_held need rows t h =
    below_from_places t (all_held rows) (omega (arith, h.count, length-map rows held))
    (λ i p. omega (arith, length-map rows held, held_at rows i (omega (arith, length-map rows held)), h.most i (omega (arith, length-map rows held))))

pub above_floors : (need : ℕ) (rows : List Row) (t : List ℕ) → AreTargets rows need t → AreBelow (all_floors rows) t
above_floors need rows t h =
    below_from_places (all_floors rows) t (omega (arith, h.count, length-map rows floor_of))
    (λ i p. omega (arith, floor_at rows i (omega (arith, h.count)), h.least i (omega (arith, h.count))))

-- before anything is needed each row keeps all
pub targets_begin : (rows : List Row) → AreTargets rows 0 (all_held rows)
targets_begin rows = record {
  count = length-map rows held;
  least = λ i p. omega (arith, held_at rows i p);
  most = λ i p. omega (arith, held_at rows i p);
  total = omega (arith, revoked_is_gap rows (all_held rows), gap_of_equal (all_held rows));
  fair = λ i j p q r s. absurd (omega (arith, held_at rows i p));
}

-- what is left to revoke is what stands above the floors
pub left_is_gap : (need : ℕ) (rows : List Row) (t : List ℕ) → AreTargets rows need t →
    revoked rows t + gap t (all_floors rows) ≡ sum_by spare rows
left_is_gap need rows t h =
    omega (
      arith,
      revoked_is_gap rows t,
      spare_is_gap rows,
      gap_chain (all_held rows) t (all_floors rows) (below_held need rows t h) (above_floors need rows t h),
    )

module _ (rows : List Row) (are : AreRows rows) where
  -- one more page comes from the row that pays next
  pub targets_step : (need : ℕ) (t : List ℕ) (i : ℕ) → AreTargets rows need t → IsFirstBelow rows (λ k. get_or t k 0) (length rows) i →
      AreTargets rows (need + 1) (set t i (get_or t i 0 - 1))
  targets_step need t i h f =
      let within : i < length t = omega (arith, f.within, h.count) in
      let above : (row_at rows i).floor < get_or t i 0 = f.above in
      let same : get_or (set t i (get_or t i 0 - 1)) i 0 ≡ get_or t i 0 - 1 = get_or-set_same t i (get_or t i 0 - 1) 0 within in
      let other : (k : ℕ) → k ≢ i → get_or (set t i (get_or t i 0 - 1)) k 0 ≡ get_or t k 0 = λ k ne. get_or-set_other t i k (get_or t i 0 - 1) 0 ne in
      record {
        count = length-set t i (get_or t i 0 - 1) ∙ h.count;
        least = λ k p. elim (cases_eq k i) [
          | inl e ↦ rw e (omega arith)
          | inr ne ↦ omega (arith, other k ne, h.least k p)
        ];
        most = λ k p. elim (cases_eq k i) [
          | inl e ↦ rw e (omega (arith, h.most i f.within))
          | inr ne ↦ omega (arith, other k ne, h.most k p)
        ];
        total =
            let falls : gap (all_held rows) (set t i (get_or t i 0 - 1)) ≡ gap (all_held rows) t + 1 =
            gap-set (all_held rows) t i 1 (get_or t i 0 - 1) within (omega (arith, length-map rows held, h.count))
            (omega (arith, held_at rows i f.within, h.most i f.within)) (omega arith) in
            let stands : get_or t i 0 - get_or (all_floors rows) i 0 ≤ gap t (all_floors rows) =
            gap-at-le t (all_floors rows) i (omega (arith, length-map rows floor_of, f.within)) in
            let floor : get_or (all_floors rows) i 0 ≡ (row_at rows i).floor = floor_at rows i f.within in
            let all : revoked rows t + gap t (all_floors rows) ≡ sum_by spare rows = left_is_gap need rows t h in
            omega (arith, revoked_is_gap rows t, revoked_is_gap rows (set t i (get_or t i 0 - 1)), h.total);
        fair = λ k j p q r s.
            let again : get_or t i 0 - 1 + 1 ≡ get_or t i 0 = omega arith in
            elim (cases_eq k i) [
              | inl ek ↦ elim (cases_eq j i) [
                | inl ej ↦ rw (ek, ej, same) (more_pages_no_later (row_at rows i) (get_or t i 0 - 1 + 1) (get_or t i 0 - 1) (omega arith))
                | inr nj ↦ rw (ek, same, again, other j nj) (f.first j q (omega (arith, other j nj)))
              ]
              | inr nk ↦ elim (cases_eq j i) [
                | inl ej ↦
                    let left : (row_at rows i).floor < get_or (set t i (get_or t i 0 - 1)) i 0 = rw ej at s in
                    rw (other k nk, ej, same) (no_later_chain
                    (claim (row_at rows k) (get_or t k 0 + 1)) (claim (row_at rows i) (get_or t i 0)) (claim (row_at rows i) (get_or t i 0 - 1))
                    (claim_above_none (row_at rows k) (get_or t k 0 + 1) (are.each k p) (omega arith))
                    (claim_above_none (row_at rows i) (get_or t i 0) (are.each i f.within) (omega arith))
                    (claim_above_none (row_at rows i) (get_or t i 0 - 1) (are.each i f.within) (omega arith))
                    (h.fair k i p f.within (omega (arith, other k nk)) above)
                    (more_pages_no_later (row_at rows i) (get_or t i 0) (get_or t i 0 - 1) (omega arith)))
                | inr nj ↦ rw (other k nk, other j nj) (h.fair k j p q (omega (arith, other k nk)) (omega (arith, other j nj)))
              ]
            ];
      }

  -- where no row has pages above its floor all is revoked, and a greater need revokes no more
  pub targets_stay : (need more : ℕ) (t : List ℕ) → AreTargets rows need t → AreNoneBelow rows (λ k. get_or t k 0) (length rows) →
      need ≤ more → AreTargets rows more t
  targets_stay need more t h none p =
      let low_t : AreBelow t (all_floors rows) =
      below_from_places t (all_floors rows) (omega (arith, h.count, length-map rows floor_of))
      (λ i q. omega (arith, floor_at rows i (omega (arith, length-map rows floor_of)), none.none i (omega (arith, length-map rows floor_of)))) in
      let flat : gap t (all_floors rows) ≡ 0 = gap-none t (all_floors rows) low_t in
      record {
        count = h.count;
        least = h.least;
        most = h.most;
        total = omega (arith, h.total, left_is_gap need rows t h);
        fair = h.fair;
      }

  pub record HasTargets (need : ℕ) : Type 0 where
    pub targets : List ℕ
    pub hold : AreTargets rows need targets

  -- there are targets for every need
  pub targets_for : (need : ℕ) → HasTargets need
  targets_for zero = record { targets = all_held rows; hold = targets_begin rows }
  targets_for (suc need) =
      let before : HasTargets need = targets_for need in
      rw (← add-one) (elim (first_or_none rows (λ k. get_or before.targets k 0) (length rows) are (omega arith)) [
        | inl f ↦ record { targets = set before.targets f.at (get_or before.targets f.at 0 - 1); hold = targets_step need before.targets f.at before.hold f.first }
        | inr none ↦ record { targets = before.targets; hold = targets_stay need (need + 1) before.targets before.hold none (omega arith) }
      ])

  -- a machine has one row
  pub same_row : (i j : ℕ) → i < length rows → j < length rows → (row_at rows i).vm ≡ (row_at rows j).vm → i ≡ j
  same_row i j p q e =
      elim (cases_order i j) [
        | inl same ↦ same
        | inr apart ↦ elim apart [
          | inl r ↦ absurd (omega (arith, are.ordered i j r q))
          | inr r ↦ absurd (omega (arith, are.ordered j i r p))
        ]
      ]

  -- if one list leaves more at i and the other more at j, then i is j
  crossed : (need : ℕ) (a b : List ℕ) (i j : ℕ) → AreTargets rows need a → AreTargets rows need b → i < length rows → j < length rows →
      get_or b i 0 < get_or a i 0 → get_or a j 0 < get_or b j 0 → i ≡ j
  crossed need a b i j ha hb p q r s =
      let i_pays : ComesNoLater (claim (row_at rows i) (get_or b i 0 + 1)) (claim (row_at rows j) (get_or b j 0)) =
      hb.fair i j p q (omega (arith, ha.most i p)) (omega (arith, ha.least j q)) in
      let j_pays : ComesNoLater (claim (row_at rows j) (get_or a j 0 + 1)) (claim (row_at rows i) (get_or a i 0)) =
      ha.fair j i q p (omega (arith, hb.most j q)) (omega (arith, hb.least i p)) in
      let i_rises : ComesNoLater (claim (row_at rows i) (get_or a i 0)) (claim (row_at rows i) (get_or b i 0 + 1)) =
      more_pages_no_later (row_at rows i) (get_or a i 0) (get_or b i 0 + 1) (omega arith) in
      let j_rises : ComesNoLater (claim (row_at rows j) (get_or b j 0)) (claim (row_at rows j) (get_or a j 0 + 1)) =
      more_pages_no_later (row_at rows j) (get_or b j 0) (get_or a j 0 + 1) (omega arith) in
      let above : (k n : ℕ) → k < length rows → 0 < n → 0 < (claim (row_at rows k) n).under =
      λ k n t u. claim_above_none (row_at rows k) n (are.each k t) u in
      let back : ComesNoLater (claim (row_at rows j) (get_or b j 0)) (claim (row_at rows i) (get_or b i 0 + 1)) =
      no_later_chain _ _ _ (above j (get_or b j 0) q (omega arith)) (above j (get_or a j 0 + 1) q (omega arith)) (above i (get_or b i 0 + 1) p (omega arith))
      j_rises
      (no_later_chain _ _ _ (above j (get_or a j 0 + 1) q (omega arith)) (above i (get_or a i 0) p (omega arith)) (above i (get_or b i 0 + 1) p (omega arith)) j_pays i_rises) in
      same_row i j p q (no_later_same _ _ i_pays back)

  -- there is one list of targets at most
  pub targets_same : (need : ℕ) (a b : List ℕ) → AreTargets rows need a → AreTargets rows need b → a ≡ b
  targets_same need a b ha hb =
      let below_a : AreBelow a (all_held rows) = below_held need rows a ha in
      let below_b : AreBelow b (all_held rows) = below_held need rows b hb in
      let total : gap (all_held rows) a ≡ gap (all_held rows) b =
      omega (arith, ha.total, hb.total, revoked_is_gap rows a, revoked_is_gap rows b) in
      elim (below_or_above a b (ha.count ∙ sym hb.count)) [
        | inl p ↦ equal_from_gap b a p (omega (arith, gap_chain (all_held rows) b a below_b p))
        | inr more_a ↦ elim (below_or_above b a (hb.count ∙ sym ha.count)) [
          | inl p ↦ sym (equal_from_gap a b p (omega (arith, gap_chain (all_held rows) a b below_a p)))
          | inr more_b ↦
              let e : more_a.at ≡ more_b.at =
              crossed need a b more_a.at more_b.at ha hb (omega (arith, more_a.within, hb.count)) (omega (arith, more_b.within, ha.count)) more_a.above more_b.above in
              let r : get_or a more_a.at 0 < get_or b more_a.at 0 = rw e more_b.above in
              absurd (omega (arith, more_a.above))
        ]
      ]
