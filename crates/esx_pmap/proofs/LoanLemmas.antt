-- Loans after a change of one of them, and what a place tells.
use Rattle.std.proofs.Common.{◌≡◌, ◌≢◌, ℕ, zero, suc, ◌+◌, ◌-◌, ◌<◌, ◌≤◌, eqb, List, [], ◌∷◌, length, set, refl, sym, ap, ◌∙◌, inl, inr, arith, get_or-set_same, get_or-set_other}
use Rattle.std.specs.List.{insert, remove}
use Rattle.std.proofs.lemmas.Bool.{cases_eq, cases_lt, cases_order, eq-eqb, ne_eqb}
use Rattle.std.proofs.lemmas.List.{length-set}
use Rattle.std.proofs.lemmas.List.Edits.{get_or-insert_at, get_or-insert_below, get_or-insert_above, length-insert, get_or-remove_below, get_or-remove_above, length-remove}
use Rattle.std.specs.List.Sorted.{IsNonDecreasingBy}
use Rattle.std.proofs.lemmas.List.Sorted.{IsNonDecreasingBy-from_default}
use Rattle.std.proofs.lemmas.List.Sums.{sum_by-cons, sum_by-set, sum_by-remove}
use Rattle.esx_lists.specs.Counts.{one}
use Rattle.esx_lists.proofs.Counts.{sum_of_none, sum_of_one}
use Rattle.esx_pmap.specs.declared.loans.Loan.{Loan}
use Rattle.esx_pmap.specs.Loans.{no_loan, loan_at, AreLoans, IsPlace, lent_of, lent_in, all_lent}

-- what a loan adds to an epoch's pages
own : (e : ℕ) (l : Loan) → l.epoch ≡ e → lent_of e l ≡ l.count
own e l h = rw (eq-eqb l.epoch e h) refl

other : (e : ℕ) (l : Loan) → l.epoch ≢ e → lent_of e l ≡ 0
other e l h = rw (ne_eqb l.epoch e h) refl

-- one page more or less of the same epoch
more_of : (e epoch count : ℕ) → lent_of e (record { epoch = epoch; count = count + 1 }) ≡ lent_of e (record { epoch = epoch; count = count }) + one (eqb epoch e)
more_of e epoch count =
    elim (cases_eq epoch e) [
      | inl h ↦ rw (eq-eqb epoch e h) refl
      | inr h ↦ rw (ne_eqb epoch e h) refl
    ]

-- the loan of an epoch, or none
pub loan_found : (ls : List Loan) (e at : ℕ) → AreLoans ls → at < length ls → (loan_at ls at).epoch ≡ e → lent_in e ls ≡ (loan_at ls at).count
loan_found ls e at a h same =
    sum_of_one (lent_of e) ls at no_loan h (λ k l ne. other e (loan_at ls k) (elim (cases_order k at) [
      | inl q ↦ absurd (ne q)
      | inr o ↦ elim o [
        | inl q ↦ let r = a.rising k at q h in λ z. omega arith
        | inr q ↦ let r = a.rising at k q l in λ z. omega arith
      ]
    ])) ∙ own e (loan_at ls at) same

pub no_loan_found : (ls : List Loan) (e at : ℕ) → AreLoans ls → IsPlace ls e at → (at < length ls → (loan_at ls at).epoch ≢ e) → lent_in e ls ≡ 0
no_loan_found ls e at a p ne =
    sum_of_none (lent_of e) ls no_loan (λ k l. other e (loan_at ls k) (elim (cases_order k at) [
      | inl q ↦ rw q (ne (rw q at l))
      | inr o ↦ elim o [
        | inl q ↦ let b = p.before k q in λ z. omega arith
        | inr q ↦ let b = p.after at (omega arith) (omega arith) in let r = a.rising at k q l in λ z. omega arith
      ]
    ]))

-- where pages are lent in an epoch, its loan stands at its place
pub loan_there : (ls : List Loan) (e at : ℕ) → AreLoans ls → IsPlace ls e at → 1 ≤ lent_in e ls → (at < length ls) × ((loan_at ls at).epoch ≡ e)
loan_there ls e at a p some =
    elim (cases_lt at (length ls)) [
      | inl h ↦ elim (cases_eq (loan_at ls at).epoch e) [
        | inl same ↦ (h, same)
        | inr ne ↦ absurd (let z = no_loan_found ls e at a p (λ _. ne) in omega arith)
      ]
      | inr h ↦ absurd (let z = no_loan_found ls e at a p (λ l. absurd (omega arith)) in omega arith)
    ]

-- no epoch has more pages than all have
pub lent_within : (ls : List Loan) (at : ℕ) → at < length ls → (loan_at ls at).count ≤ all_lent ls
lent_within [] at h = absurd (omega arith)
lent_within (x ∷ xs) zero h = rw (sum_by-cons (λ l. l.count) x xs) (omega arith)
lent_within (x ∷ xs) (suc at) h = let r = lent_within xs at (omega arith) in rw (sum_by-cons (λ l. l.count) x xs) (omega arith)

-- there are at most as many loans as pages
pub loans_within : (ls : List Loan) → ((i : ℕ) → i < length ls → 1 ≤ (loan_at ls i).count) → length ls ≤ all_lent ls
loans_within [] some = omega arith
loans_within (x ∷ xs) some =
    let head : 1 ≤ x.count = some zero (omega arith) in
    let rest : length xs ≤ all_lent xs = loans_within xs (λ i h. some (suc i) (omega arith)) in
    rw (sum_by-cons (λ l. l.count) x xs) (omega arith)

-- A loan with another count.

set_epochs : (ls : List Loan) (at k : ℕ) (l : Loan) → at < length ls → l.epoch ≡ (loan_at ls at).epoch → (loan_at (set ls at l) k).epoch ≡ (loan_at ls k).epoch
set_epochs ls at k l h same =
    elim (cases_eq k at) [
      | inl q ↦ rw (q, get_or-set_same ls at l no_loan h) same
      | inr ne ↦ rw (get_or-set_other ls at k l no_loan ne) refl
    ]

pub loans_set : (ls : List Loan) (at : ℕ) (l : Loan) → AreLoans ls → at < length ls → l.epoch ≡ (loan_at ls at).epoch → 1 ≤ l.count → AreLoans (set ls at l)
loans_set ls at l a h same some = record {
  rising = λ i j q r. rw (set_epochs ls at i l h same, set_epochs ls at j l h same) (a.rising i j q (rw length-set at r));
  some = λ i r. elim (cases_eq i at) [
    | inl q ↦ rw (q, get_or-set_same ls at l no_loan h) some
    | inr ne ↦ rw (get_or-set_other ls at i l no_loan ne) (a.some i (rw length-set at r))
  ];
}

-- A loan of another epoch between the others.

module _ (ls : List Loan) (at : ℕ) (l : Loan) (a : AreLoans ls) (p : IsPlace ls l.epoch at) (ne : at < length ls → (loan_at ls at).epoch ≢ l.epoch) where
  abbrev more : List Loan
  more = insert ls at l

  below : (k : ℕ) → k < at → loan_at more k ≡ loan_at ls k
  below k q = get_or-insert_below ls at l no_loan k q p.bound

  here : loan_at more at ≡ l
  here = get_or-insert_at ls at l no_loan p.bound

  above : (k : ℕ) → at < k → loan_at more k ≡ loan_at ls (k - 1)
  above k q =
      let next : k ≡ (k - 1) + 1 = omega arith in
      ap (loan_at more) next ∙ get_or-insert_above ls at l no_loan (k - 1) (omega arith) p.bound

  later : (k : ℕ) → at ≤ k → k < length ls → l.epoch < (loan_at ls k).epoch
  later k q r =
      let first = p.after at (omega arith) (omega arith) in
      let apart = ne (omega arith) in
      elim (cases_eq k at) [
        | inl e ↦ rw e (omega arith)
        | inr o ↦ let up = a.rising at k (omega arith) r in omega arith
      ]

  rising_insert : (i j : ℕ) → i < j → j < length ls + 1 → (loan_at more i).epoch < (loan_at more j).epoch
  rising_insert i j q r =
      elim (cases_order j at) [
        | inl e ↦ rw (e, here, below i (omega arith)) (p.before i (omega arith))
        | inr o ↦ elim o [
          | inl b ↦ rw (below i (omega arith), below j b) (a.rising i j q (let m = p.bound in omega arith))
          | inr b ↦ elim (cases_order i at) [
            | inl e ↦ rw (e, here, above j b) (later (j - 1) (omega arith) (omega arith))
            | inr o' ↦ elim o' [
              | inl c ↦ rw (below i c, above j b) (a.rising i (j - 1) (omega arith) (omega arith))
              | inr c ↦ rw (above i c, above j b) (a.rising (i - 1) (j - 1) (omega arith) (omega arith))
            ]
          ]
        ]
      ]

  pub loans_insert : 1 ≤ l.count → AreLoans more
  loans_insert some =
      let len = length-insert ls at l p.bound in
      record {
        rising = λ i j q r. rising_insert i j q (omega arith);
        some = λ i r. elim (cases_order i at) [
          | inl e ↦ rw (e, here) some
          | inr o ↦ elim o [
            | inl q ↦ rw (below i q) (a.some i (let m = p.bound in omega arith))
            | inr q ↦ rw (above i q) (a.some (i - 1) (omega arith))
          ]
        ];
      }

-- A loan less.

module _ (ls : List Loan) (at : ℕ) (a : AreLoans ls) (h : at < length ls) where
  abbrev less : List Loan
  less = remove ls at

  kept_below : (k : ℕ) → k < at → loan_at less k ≡ loan_at ls k
  kept_below k q = get_or-remove_below ls at no_loan k q h

  kept_above : (k : ℕ) → at ≤ k → loan_at less k ≡ loan_at ls (k + 1)
  kept_above k q = get_or-remove_above ls at no_loan k q h

  pub loans_remove : AreLoans less
  loans_remove =
      let len = length-remove ls at h in
      record {
        rising = λ i j q r. elim (cases_lt i at) [
          | inl b ↦ elim (cases_lt j at) [
            | inl c ↦ rw (kept_below i b, kept_below j c) (a.rising i j q (omega arith))
            | inr c ↦ rw (kept_below i b, kept_above j c) (a.rising i (j + 1) (omega arith) (omega arith))
          ]
          | inr b ↦ rw (kept_above i b, kept_above j (omega arith)) (a.rising (i + 1) (j + 1) (omega arith) (omega arith))
        ];
        some = λ i r. elim (cases_lt i at) [
          | inl b ↦ rw (kept_below i b) (a.some i (omega arith))
          | inr b ↦ rw (kept_above i b) (a.some (i + 1) (omega arith))
        ];
      }

-- What the changes make of the counts.

pub lent-set : (ls : List Loan) (at count : ℕ) (e : ℕ) → at < length ls → (loan_at ls at).count + 1 ≡ count → lent_in e (set ls at (record { epoch = (loan_at ls at).epoch; count = count })) ≡ lent_in e ls + one (eqb (loan_at ls at).epoch e)
lent-set ls at count e h next =
    let l = loan_at ls at in
    let s = sum_by-set (lent_of e) ls at (record { epoch = l.epoch; count = count }) no_loan h in
    let m = more_of e l.epoch l.count in
    rw (sym next) (omega (arith, rw (sym next) at s, m))

pub lent-set_less : (ls : List Loan) (at count : ℕ) (e : ℕ) → at < length ls → count + 1 ≡ (loan_at ls at).count → lent_in e (set ls at (record { epoch = (loan_at ls at).epoch; count = count })) + one (eqb (loan_at ls at).epoch e) ≡ lent_in e ls
lent-set_less ls at count e h next =
    let l = loan_at ls at in
    let s = sum_by-set (lent_of e) ls at (record { epoch = l.epoch; count = count }) no_loan h in
    let m = rw next at (more_of e l.epoch count) in
    omega (arith, s, m)

-- a place in a list whose epochs rise
pub are_rising : (ls : List Loan) → AreLoans ls → IsNonDecreasingBy (λ (l : Loan). l.epoch) ls
are_rising ls a = IsNonDecreasingBy-from_default (λ (l : Loan). l.epoch) ls no_loan (λ i j q r. elim (cases_eq i j) [
  | inl e ↦ rw e (omega arith)
  | inr ne ↦ let up = a.rising i j (omega arith) r in omega arith
])

single : (e : ℕ) (l : Loan) → l.count ≡ 1 → lent_of e l ≡ one (eqb l.epoch e)
single e l h = rw h refl

pub lent-remove : (ls : List Loan) (at : ℕ) (e : ℕ) → at < length ls → (loan_at ls at).count ≡ 1 → lent_in e (remove ls at) + one (eqb (loan_at ls at).epoch e) ≡ lent_in e ls
lent-remove ls at e h one_page =
    let s = sum_by-remove (lent_of e) ls at no_loan h in
    let m = single e (loan_at ls at) one_page in
    omega (arith, s, m)

pub all-remove : (ls : List Loan) (at : ℕ) → at < length ls → (loan_at ls at).count ≡ 1 → all_lent (remove ls at) + 1 ≡ all_lent ls
all-remove ls at h one_page = let s = sum_by-remove (λ l. l.count) ls at no_loan h in omega (arith, s, one_page)

pub all-set_less : (ls : List Loan) (at epoch count : ℕ) → at < length ls → count + 1 ≡ (loan_at ls at).count → all_lent (set ls at (record { epoch = epoch; count = count })) + 1 ≡ all_lent ls
all-set_less ls at epoch count h next = let s = sum_by-set (λ l. l.count) ls at (record { epoch = epoch; count = count }) no_loan h in omega (arith, s, next)
