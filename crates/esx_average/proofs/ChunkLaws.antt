-- Revoking many pages of a row at once: what is revoked stays within the targets.
use Rattle.std.proofs.Common.{◌≡◌, ◌≢◌, ℕ, ◌+◌, ◌-◌, ◌*◌, ◌<◌, ◌≤◌, min, List, length, get_or, set, refl, sym, ap, ◌∙◌, inl, inr, arith, get_or-set_same, get_or-set_other}
use Rattle.std.proofs.lemmas.Bool.{cases_lt, cases_eq}
use Rattle.std.proofs.lemmas.List.{length-map, length-set}
use Rattle.std.specs.Prelude.{sum_by}
use Rattle.esx_types.specs.declared.config.TheConstants.{MAX_PAGES}
use Rattle.esx_formulas.specs.declared.targets.Row.{Row}
use Rattle.esx_formulas.specs.Ratio.{claim, ComesNoLater, AreRows, row_at}
use Rattle.esx_formulas.specs.Targets.{held, spare, revoked, AreTargets}
use Rattle.esx_formulas.specs.Payers.{IsFirstBelow, AreNoneBelow}
use Rattle.esx_formulas.proofs.Gaps.{gap, AreBelow, below_from_places, below_length, below_at, gap_chain, gap_of_equal, equal_from_gap, gap-at-le, gap-le, gap-set}
use Rattle.esx_formulas.proofs.RatioLaws.{no_later_chain, no_later_same, more_pages_no_later, claim_above_none}
use Rattle.esx_formulas.proofs.TargetLaws.{all_held, revoked_is_gap, held_at, below_held, HasTargets, targets_for, same_row}

-- So many pages are left to revoke, and none was revoked that the targets leave.
pub record IsPartial (rows : List Row) (need : ℕ) (t : List ℕ) (left : ℕ) : Type 0 where
  pub below : AreBelow t (all_held rows)
  pub sum : revoked rows t + left ≡ min need (sum_by spare rows)
  pub safe : (targets : List ℕ) → AreTargets rows need targets → AreBelow targets t

pub partial_count : (rows : List Row) (need : ℕ) (t : List ℕ) (left : ℕ) → IsPartial rows need t left → length t ≡ length rows
partial_count rows need t left h = below_length t (all_held rows) h.below ∙ length-map rows held

below_self : (xs : List ℕ) → AreBelow xs xs
below_self xs = below_from_places xs xs refl (λ i p. omega arith)

pub partial_begins : (rows : List Row) (need left : ℕ) → left ≡ min need (sum_by spare rows) → IsPartial rows need (all_held rows) left
partial_begins rows need left e = record {
  below = below_self (all_held rows);
  sum = omega (arith, revoked_is_gap rows (all_held rows), gap_of_equal (all_held rows));
  safe = λ targets h. below_held need rows targets h;
}

-- no target is more than a machine may have
pub partial_most : (rows : List Row) (need : ℕ) (t : List ℕ) (left i : ℕ) → AreRows rows → IsPartial rows need t left → i < length t → get_or t i 0 ≤ MAX_PAGES
partial_most rows need t left i are h p =
    let q : i < length rows = omega (arith, partial_count rows need t left h) in
    omega (arith, below_at t (all_held rows) i h.below, held_at rows i q, (are.each i q).most_pages, (are.each i q).most_floor)

-- what is left is how far the targets lie below
left_is : (rows : List Row) (need : ℕ) (t : List ℕ) (left : ℕ) (targets : List ℕ) → IsPartial rows need t left →
    AreTargets rows need targets → gap t targets ≡ left
left_is rows need t left targets h k =
    omega (arith, h.sum, k.total, revoked_is_gap rows t, revoked_is_gap rows targets, gap_chain (all_held rows) t targets h.below (h.safe targets k))

module _ (rows : List Row) (are : AreRows rows) where
  -- where the row that pays next kept less than a chunk too much, each row does
  near : (need : ℕ) (t targets : List ℕ) (less i j : ℕ) → AreTargets rows need targets → AreBelow t (all_held rows) →
      IsFirstBelow rows (λ k. get_or t k 0 - less) (length rows) i → j < length rows →
      get_or t i 0 ≤ get_or targets i 0 + less → get_or targets j 0 + less < get_or t j 0 → ⊥
  near need t targets less i j k below first q close far =
      let above : (m n : ℕ) → m < length rows → 0 < n → 0 < (claim (row_at rows m) n).under =
      λ m n u v. claim_above_none (row_at rows m) n (are.each m u) v in
      let held_j : get_or t j 0 ≤ held (row_at rows j) = omega (arith, below_at t (all_held rows) j below, held_at rows j q) in
      let able_i : (row_at rows i).floor < get_or t i 0 - less = first.above in
      let able_j : (row_at rows j).floor < get_or t j 0 - less = omega (arith, k.least j q) in
      let paid : ComesNoLater (claim (row_at rows j) (get_or targets j 0 + 1)) (claim (row_at rows i) (get_or targets i 0)) =
      k.fair j i q first.within (omega arith) (omega arith) in
      let j_rises : ComesNoLater (claim (row_at rows j) (get_or t j 0 - less)) (claim (row_at rows j) (get_or targets j 0 + 1)) =
      more_pages_no_later (row_at rows j) (get_or t j 0 - less) (get_or targets j 0 + 1) (omega arith) in
      let i_rises : ComesNoLater (claim (row_at rows i) (get_or targets i 0)) (claim (row_at rows i) (get_or t i 0 - less)) =
      more_pages_no_later (row_at rows i) (get_or targets i 0) (get_or t i 0 - less) (omega arith) in
      let back : ComesNoLater (claim (row_at rows j) (get_or t j 0 - less)) (claim (row_at rows i) (get_or t i 0 - less)) =
      no_later_chain _ _ _ (above j (get_or t j 0 - less) q (omega arith)) (above j (get_or targets j 0 + 1) q (omega arith))
      (above i (get_or t i 0 - less) first.within (omega arith)) j_rises
      (no_later_chain _ _ _ (above j (get_or targets j 0 + 1) q (omega arith)) (above i (get_or targets i 0) first.within (omega arith))
      (above i (get_or t i 0 - less) first.within (omega arith)) paid i_rises) in
      let e : i ≡ j = same_row rows are i j first.within q (no_later_same _ _ (first.first j q able_j) back) in
      let far_i : get_or targets i 0 + less < get_or t i 0 = rw e far in
      absurd (omega arith)

  -- where more is left than one page less than a chunk of each row, a chunk of the row that pays next stays within the targets
  within : (need : ℕ) (t targets : List ℕ) (left less i : ℕ) → AreTargets rows need targets → IsPartial rows need t left →
      IsFirstBelow rows (λ k. get_or t k 0 - less) (length rows) i → length rows * less < left → get_or targets i 0 + (less + 1) ≤ get_or t i 0
  within need t targets left less i k h first more =
      elim (cases_lt (get_or targets i 0 + less) (get_or t i 0)) [
        | inl p ↦ omega arith
        | inr close ↦
            let count : length t ≡ length rows = partial_count rows need t left h in
            let small : gap t targets ≤ length t * less =
            gap-le less t targets (count ∙ sym k.count)
            (λ j q. elim (cases_lt (get_or targets j 0 + less) (get_or t j 0)) [
              | inl far ↦ absurd (near need t targets less i j k h.below first (omega arith) close far)
              | inr p ↦ p
            ]) in
            let all : gap t targets ≡ left = left_is rows need t left targets h k in
            let same : length t * less ≡ length rows * less = ap (λ n. n * less) count in
            absurd (omega arith)
      ]

  pub record IsStep (need : ℕ) (t : List ℕ) (left less i : ℕ) : Type 0 where
    pub enough : less + 1 ≤ left
    pub room : less + 1 ≤ get_or t i 0
    pub after : IsPartial rows need (set t i (get_or t i 0 - (less + 1))) (left - (less + 1))

  pub partial_step : (need : ℕ) (t : List ℕ) (left less i : ℕ) → IsPartial rows need t left →
      IsFirstBelow rows (λ k. get_or t k 0 - less) (length rows) i → length rows * less < left → IsStep need t left less i
  partial_step need t left less i h first more =
      let some : HasTargets rows are need = targets_for rows are need in
      let count : length t ≡ length rows = partial_count rows need t left h in
      let fits : i < length t = omega (arith, first.within) in
      let fell : get_or some.targets i 0 + (less + 1) ≤ get_or t i 0 = within need t some.targets left less i some.hold h first more in
      let held_i : get_or t i 0 ≤ get_or (all_held rows) i 0 = below_at t (all_held rows) i h.below in
      let room : less + 1 ≤ get_or t i 0 = omega arith in
      let sum : gap (all_held rows) (set t i (get_or t i 0 - (less + 1))) ≡ gap (all_held rows) t + (less + 1) =
      gap-set (all_held rows) t i (less + 1) (get_or t i 0 - (less + 1)) fits (sym (below_length t (all_held rows) h.below)) held_i (omega arith) in
      let part : get_or t i 0 - get_or some.targets i 0 ≤ gap t some.targets = gap-at-le t some.targets i (omega (arith, some.hold.count, first.within)) in
      let all : gap t some.targets ≡ left = left_is rows need t left some.targets h some.hold in
      let same : get_or (set t i (get_or t i 0 - (less + 1))) i 0 ≡ get_or t i 0 - (less + 1) = get_or-set_same t i (get_or t i 0 - (less + 1)) 0 fits in
      let other : (k : ℕ) → k ≢ i → get_or (set t i (get_or t i 0 - (less + 1))) k 0 ≡ get_or t k 0 =
      λ k ne. get_or-set_other t i k (get_or t i 0 - (less + 1)) 0 ne in
      record {
        enough = omega arith;
        room = room;
        after = record {
          below = below_from_places (set t i (get_or t i 0 - (less + 1))) (all_held rows)
              (length-set t i (get_or t i 0 - (less + 1)) ∙ below_length t (all_held rows) h.below)
              (λ k p. elim (cases_eq k i) [
                | inl e ↦ rw (e, same) (omega arith)
                | inr ne ↦ rw (other k ne) (below_at t (all_held rows) k h.below)
              ]);
          sum = omega (arith, h.sum, revoked_is_gap rows t, revoked_is_gap rows (set t i (get_or t i 0 - (less + 1))));
          safe = λ targets k. below_from_places targets (set t i (get_or t i 0 - (less + 1)))
              (k.count ∙ sym count ∙ sym (length-set t i (get_or t i 0 - (less + 1))))
              (λ j p. elim (cases_eq j i) [
                | inl e ↦ rw (e, same) (omega (arith, within need t targets left less i k h first more))
                | inr ne ↦ rw (other j ne) (below_at targets t j (h.safe targets k))
              ]);
        };
      }

  -- where more is left than one page less than a chunk of each row, some row has a chunk
  pub partial_some : (need : ℕ) (t : List ℕ) (left less : ℕ) → IsPartial rows need t left → AreNoneBelow rows (λ k. get_or t k 0 - less) (length rows) →
      length rows * less < left → ⊥
  partial_some need t left less h none more =
      let some : HasTargets rows are need = targets_for rows are need in
      let count : length t ≡ length rows = partial_count rows need t left h in
      let small : gap t some.targets ≤ length t * less =
      gap-le less t some.targets (count ∙ sym some.hold.count)
      (λ j q. omega (arith, none.none j (omega arith), some.hold.least j (omega arith))) in
      let all : gap t some.targets ≡ left = left_is rows need t left some.targets h some.hold in
      let same : length t * less ≡ length rows * less = ap (λ n. n * less) count in
      absurd (omega arith)

  -- where nothing is left these are the targets
  pub partial_ends : (need : ℕ) (t : List ℕ) → IsPartial rows need t 0 → AreTargets rows need t
  partial_ends need t h =
      let some : HasTargets rows are need = targets_for rows are need in
      let e : some.targets ≡ t = equal_from_gap t some.targets (h.safe some.targets some.hold) (left_is rows need t 0 some.targets h some.hold) in
      rw (← e) some.hold
