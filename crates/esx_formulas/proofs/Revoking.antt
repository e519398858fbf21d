-- Pages that are revoked one at a time: the rows after each are those of targets.
use Rattle.std.proofs.Common.{◌≡◌, ℕ, zero, suc, ◌+◌, ◌-◌, ◌<◌, ◌≤◌, ◌==◌, cond, List, [], ◌∷◌, length, get_or, set, map, refl, sym, ap, ◌∙◌, Option, Some, None, inl, inr, arith, get_or-set_same, get_or-set_other}
use Rattle.std.proofs.lemmas.Bool.{cases_eq, cond-true, cond-false, eq-eqb, ne_eqb}
use Rattle.std.proofs.lemmas.List.{length-map, length-set, get_or-map, ext_get_or}
use Rattle.esx_types.specs.declared.config.TheConstants.{MAX_PAGES}
use Rattle.esx_formulas.specs.declared.targets.Row.{Row}
use Rattle.esx_formulas.specs.Ratio.{Claim, AreRows, row_at, no_row}
use Rattle.esx_formulas.specs.Targets.{held, AreTargets, first_claim, with_pages, paid, after_revoking, targets_of}
use Rattle.esx_formulas.specs.Payers.{IsFirstBelow, AreNoneBelow}
use Rattle.esx_formulas.proofs.Claims.{IsFound, first_found}
use Rattle.esx_formulas.proofs.TargetLaws.{all_held, targets_begin, targets_step, targets_stay, targets_same, same_row}

-- rows with these pages, as many as there are rows
abbrev pub with_each : List Row → List ℕ → List Row
with_each [] t = []
with_each (row ∷ rows) [] = []
with_each (row ∷ rows) (n ∷ t) = with_pages row n ∷ with_each rows t

abbrev pub pages_of : Row → ℕ
pages_of row = row.pages

each_length : (rows : List Row) (t : List ℕ) → length t ≡ length rows → length (with_each rows t) ≡ length rows
each_length [] t e = refl
each_length (row ∷ rows) [] e = absurd (omega arith)
each_length (row ∷ rows) (n ∷ t) e = ap suc (each_length rows t (omega arith))

each_at : (rows : List Row) (t : List ℕ) (i : ℕ) → length t ≡ length rows → i < length rows → row_at (with_each rows t) i ≡ with_pages (row_at rows i) (get_or t i 0)
each_at [] t i e p = absurd (omega arith)
each_at (row ∷ rows) [] i e p = absurd (omega arith)
each_at (row ∷ rows) (n ∷ t) zero e p = refl
each_at (row ∷ rows) (n ∷ t) (suc i) e p = each_at rows t i (omega arith) (omega arith)

each_pages : (rows : List Row) (t : List ℕ) → length t ≡ length rows → map pages_of (with_each rows t) ≡ t
each_pages [] [] e = refl
each_pages [] (n ∷ t) e = absurd (omega arith)
each_pages (row ∷ rows) [] e = absurd (omega arith)
each_pages (row ∷ rows) (n ∷ t) e = ap (λ r. n ∷ r) (each_pages rows t (omega arith))

each_held : (rows : List Row) → map (λ (row : Row). with_pages row (held row)) rows ≡ with_each rows (all_held rows)
each_held [] = refl
each_held (row ∷ rows) = ap (λ r. with_pages row (held row) ∷ r) (each_held rows)

module _ (rows : List Row) (are : AreRows rows) where
  -- no row has more pages than a machine may have
  most_pages : (need : ℕ) (t : List ℕ) (i : ℕ) → AreTargets rows need t → i < length rows → get_or t i 0 ≤ MAX_PAGES
  most_pages need t i h p = omega (arith, h.most i p, (are.each i p).most_pages, (are.each i p).most_floor)

  each_are : (need : ℕ) (t : List ℕ) → AreTargets rows need t → AreRows (with_each rows t)
  each_are need t h =
      let n : length (with_each rows t) ≡ length rows = each_length rows t h.count in
      record {
        each = λ i p.
            let q : i < length rows = omega arith in
            rw (each_at rows t i h.count q) (record {
              vm = (are.each i q).vm;
              least_shares = (are.each i q).least_shares;
              most_shares = (are.each i q).most_shares;
              most_pages = most_pages need t i h q;
              most_floor = (are.each i q).most_floor;
              most_active = (are.each i q).most_active;
              most_tau = (are.each i q).most_tau;
            });
        ordered = λ i j p q.
            let r : j < length rows = omega arith in
            rw (each_at rows t i h.count (omega arith), each_at rows t j h.count r) (are.ordered i j p r);
      }

  -- a row judged at its own pages, after some are revoked
  none_of_each : (t : List ℕ) → length t ≡ length rows → AreNoneBelow (with_each rows t) (λ i. (row_at (with_each rows t) i).pages) (length (with_each rows t)) →
      AreNoneBelow rows (λ i. get_or t i 0) (length rows)
  none_of_each t e h = record {
    none = λ i p. rw (each_at rows t i e p) at (h.none i (omega (arith, each_length rows t e)));
  }

  first_of_each : (t : List ℕ) (i : ℕ) → length t ≡ length rows →
      IsFirstBelow (with_each rows t) (λ j. (row_at (with_each rows t) j).pages) (length (with_each rows t)) i →
      IsFirstBelow rows (λ j. get_or t j 0) (length rows) i
  first_of_each t i e h =
      let n : length (with_each rows t) ≡ length rows = each_length rows t e in
      let p : i < length rows = omega (arith, h.within) in
      record {
        within = p;
        above = rw (each_at rows t i e p) at h.above;
        first = λ j q r. rw (each_at rows t i e p, each_at rows t j e q) at (h.first j (omega arith) (rw (each_at rows t j e q) r));
      }

  -- the machine of row i pays one page
  each_paid : (t : List ℕ) (i : ℕ) (a : Claim) → length t ≡ length rows → i < length rows → a.vm ≡ (row_at rows i).vm →
      paid (with_each rows t) (Some a) ≡ with_each rows (set t i (get_or t i 0 - 1))
  each_paid t i a e p named =
      let u : List ℕ = set t i (get_or t i 0 - 1) in
      let pay : Row → Row = λ (row : Row). cond (row.vm == a.vm) (with_pages row (row.pages - 1)) row in
      let n : length (with_each rows t) ≡ length rows = each_length rows t e in
      let count : length u ≡ length rows = length-set t i (get_or t i 0 - 1) ∙ e in
      ext_get_or no_row (map pay (with_each rows t)) (with_each rows u) (length-map (with_each rows t) pay ∙ n ∙ sym (each_length rows u count))
      (λ j q.
      let r : j < length rows = omega (arith, length-map (with_each rows t) pay) in
      get_or-map pay (with_each rows t) j no_row no_row (omega arith) ∙ ap pay (each_at rows t j e r)
      ∙ elim (cases_eq j i) [
        | inl same ↦
            cond-true ((row_at rows j).vm == a.vm) _ _ (eq-eqb _ _ (ap (λ k. (row_at rows k).vm) same ∙ sym named))
            ∙ ap (with_pages (row_at rows j)) (ap (λ k. get_or t k 0 - 1) same ∙ sym (ap (λ k. get_or u k 0) same ∙ get_or-set_same t i (get_or t i 0 - 1) 0 (omega arith)))
        | inr apart ↦
            cond-false ((row_at rows j).vm == a.vm) _ _ (ne_eqb _ _ (λ k. apart (same_row rows are j i r p (k ∙ named))))
            ∙ ap (with_pages (row_at rows j)) (sym (get_or-set_other t i j (get_or t i 0 - 1) 0 apart))
      ]
      ∙ sym (each_at rows u j count r))

  -- the targets after one more page
  record After (need : ℕ) (t : List ℕ) (o : Option Claim) : Type 0 where
    targets : List ℕ
    hold : AreTargets rows (need + 1) targets
    is : paid (with_each rows t) o ≡ with_each rows targets

  after_one : (need : ℕ) (t : List ℕ) (o : Option Claim) → AreTargets rows need t → IsFound (with_each rows t) (length (with_each rows t)) o → After need t o
  after_one need t None h f =
      record { targets = t; hold = targets_stay rows are need (need + 1) t h (none_of_each t h.count f) (omega arith); is = refl }
  after_one need t (Some a) h f =
      let first = first_of_each t f.at h.count f.first in
      let named : a.vm ≡ (row_at rows f.at).vm = ap (λ (c : Claim). c.vm) f.is ∙ ap (λ (r : Row). r.vm) (each_at rows t f.at h.count first.within) in
      record {
        targets = set t f.at (get_or t f.at 0 - 1);
        hold = targets_step rows are need t f.at h first;
        is = each_paid t f.at a h.count first.within named;
      }

  -- rows of targets are rows of targets after some more pages
  after_more : (n need : ℕ) (t : List ℕ) → AreTargets rows need t → AreTargets rows (need + n) (map pages_of (after_revoking n (with_each rows t)))
  unfolding after_revoking
  after_more zero need t h = rw (each_pages rows t h.count) (let e : need + 0 ≡ need = omega arith in rw e h)
  after_more (suc n) need t h =
      let next = after_one need t (first_claim (with_each rows t)) h (first_found (with_each rows t) (each_are need t h)) in
      let e : need + suc n ≡ need + 1 + n = omega arith in
      rw (e, next.is) (after_more n (need + 1) next.targets next.hold)

  -- the list that is worked out page by page are targets
  pub worked_out : (need : ℕ) → AreTargets rows need (targets_of rows need)
  unfolding targets_of
  worked_out need =
      let e : 0 + need ≡ need = omega arith in
      rw (e, ← each_held rows) at (after_more need 0 (all_held rows) (targets_begin rows))

  pub only_worked_out : (need : ℕ) (targets : List ℕ) → AreTargets rows need targets → targets ≡ targets_of rows need
  only_worked_out need targets h = targets_same rows are need targets (targets_of rows need) h (worked_out need)
