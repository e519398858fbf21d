-- Sums and counts on lists and ranges, and sums that are swapped.
use Rattle.std.proofs.Common.{zero, suc, ◌≡◌, ℕ, ◌+◌, ◌<◌, ◌≤◌, Bool, false, true, List, [], ◌∷◌, length, count_by, sum_by, refl, ap, ◌∙◌, arith, Some, None, inl, inr, ◌==◌}
use Rattle.std.specs.List.{list_any, find, range_with_len}
use Rattle.std.proofs.lemmas.List.Sums.{sum_by-cons}
use Rattle.std.proofs.lemmas.Bool.Decides.{nat_tests}
use Rattle.std.proofs.lemmas.Bool.{cases_eq}
use Rattle.esx_model.proofs.Lists.{one, chosen, either}

-- Sums over a list of sums.

pub sum_same : {X : Type 0} (f g : X → ℕ) (xs : List X) → ((x : X) → f x ≡ g x) → sum_by f xs ≡ sum_by g xs
sum_same f g [] same = refl
sum_same f g (x ∷ xs) same = (let a = sum_by-cons f x xs in let b = sum_by-cons g x xs in let e = same x in let rest = sum_same f g xs same in omega (arith, a, b, e, rest))

pub sum_plus : {X : Type 0} (f g : X → ℕ) (xs : List X) → sum_by (λ x. f x + g x) xs ≡ sum_by f xs + sum_by g xs
sum_plus f g [] = refl
sum_plus f g (x ∷ xs) = (let a = sum_by-cons f x xs in let b = sum_by-cons g x xs in let c = sum_by-cons (λ x. f x + g x) x xs in let rest = sum_plus f g xs in omega (arith, a, b, c, rest))

pub sum_none : {X : Type 0} (xs : List X) → sum_by (λ (x : X). 0) xs ≡ 0
sum_none [] = refl
sum_none {X = X} (x ∷ xs) = (let a = sum_by-cons (λ (x : X). 0) x xs in let rest = sum_none xs in omega (arith, a, rest))

-- sums of sums the other way round: where each element is counted at most so often among some numbers, all are counted at most so often together
pub covered : {X : Type 0} (h : ℕ → X → ℕ) (w : X → ℕ) (fs : List ℕ) (xs : List X) → ((x : X) → sum_by (λ f. h f x) fs ≤ w x) → sum_by (λ f. sum_by (h f) xs) fs ≤ sum_by w xs
covered h w fs [] most = (let none = sum_none fs in omega (arith, none))
covered h w fs (x ∷ xs) most =
    let same = sum_same (λ f. sum_by (h f) (x ∷ xs)) (λ f. h f x + sum_by (h f) xs) fs (λ f. sum_by-cons (h f) x xs) in
    let plus = sum_plus (λ f. h f x) (λ f. sum_by (h f) xs) fs in
    let here = most x in
    let rest = covered h w fs xs most in
    let more = sum_by-cons w x xs in
    omega (arith, same, plus, here, rest, more)

-- One number is met at most once in a range.

hits_none : (g a n : ℕ) → g < a → sum_by (λ f. one (g == f)) (range_with_len a n) ≡ 0
hits_none g a zero low = refl
hits_none g a (suc n) low =
    let more = sum_by-cons (λ f. one (g == f)) a (range_with_len (a + 1) n) in
    let no : (g == a) ≡ false = grind (arith, nat_tests) in
    let none : one (g == a) ≡ 0 = ap one no in
    let rest = hits_none g (a + 1) n (omega arith) in
    omega (arith, more, none, rest)

hit : (g a n : ℕ) (b : Bool) → (g == a) ≡ b → sum_by (λ f. one (g == f)) (range_with_len (a + 1) n) ≤ 1 → sum_by (λ f. one (g == f)) (range_with_len a (suc n)) ≤ 1
hit g a n true e rest =
    let more = sum_by-cons (λ f. one (g == f)) a (range_with_len (a + 1) n) in
    let some : one (g == a) ≡ 1 = ap one e in
    let same : g ≡ a = grind (arith, nat_tests) in
    let none = hits_none g (a + 1) n (omega arith) in
    omega (arith, more, some, none)
hit g a n false e rest =
    let more = sum_by-cons (λ f. one (g == f)) a (range_with_len (a + 1) n) in
    let none : one (g == a) ≡ 0 = ap one e in
    omega (arith, more, none, rest)

pub hits_once : (g a n : ℕ) → sum_by (λ f. one (g == f)) (range_with_len a n) ≤ 1
hits_once g a zero = omega arith
hits_once g a (suc n) = hit g a n (g == a) refl (hits_once g (a + 1) n)

-- so that numbers of a range are met in a list no more often than it is long
pub listed_once : (n : ℕ) (os : List ℕ) → sum_by (λ f. count_by (λ g. g == f) os) (range_with_len 0 n) ≤ length os
listed_once n [] = (let none = sum_none (range_with_len 0 n) in omega (arith, none))
listed_once n (g ∷ os) =
    let fs = range_with_len 0 n in
    let same = sum_same (λ f. count_by (λ x. x == f) (g ∷ os)) (λ f. one (g == f) + count_by (λ x. x == f) os) fs (λ f. sum_by-cons (λ x. one (x == f)) g os) in
    let plus = sum_plus (λ f. one (g == f)) (λ f. count_by (λ x. x == f) os) fs in
    let here = hits_once g 0 n in
    let rest = listed_once n os in
    omega (arith, same, plus, here, rest)

-- What some element passes is counted.

pub counted_any : {X : Type 0} (p : X → Bool) (xs : List X) → list_any p xs ≡ true → 1 ≤ count_by p xs
counted_any p [] h = cc
counted_any p (x ∷ xs) h = elim (either (p x) (list_any p xs) h) [
  | inl w ↦ (let more = sum_by-cons (λ y. one (p y)) x xs in let some : one (p x) ≡ 1 = ap one w in omega (arith, more, some))
  | inr w ↦ (let more = sum_by-cons (λ y. one (p y)) x xs in let rest = counted_any p xs w in omega (arith, more, rest))
]

pub sum_any : {X : Type 0} (p : X → Bool) (h : X → ℕ) (xs : List X) → ((x : X) → p x ≡ true → 1 ≤ h x) → list_any p xs ≡ true → 1 ≤ sum_by h xs
sum_any p h [] some e = cc
sum_any p h (x ∷ xs) some e = elim (either (p x) (list_any p xs) e) [
  | inl w ↦ (let more = sum_by-cons h x xs in let here = some x w in omega (arith, more, here))
  | inr w ↦ (let more = sum_by-cons h x xs in let rest = sum_any p h xs some w in omega (arith, more, rest))
]

-- Sums over a range of what is 1 at least.

pub range_least : (h : ℕ → ℕ) (a n : ℕ) → ((f : ℕ) → f < a + n → a ≤ f → 1 ≤ h f) → n ≤ sum_by h (range_with_len a n)
range_least h a zero least = omega arith
range_least h a (suc n) least =
    let more = sum_by-cons h a (range_with_len (a + 1) n) in
    let here = least a (omega arith) (omega arith) in
    let rest = range_least h (a + 1) n (λ f below from. least f (omega arith) (omega arith)) in
    omega (arith, more, here, rest)

pub range_more : (h : ℕ → ℕ) (a n f : ℕ) → ((f : ℕ) → f < a + n → a ≤ f → 1 ≤ h f) → f < a + n → a ≤ f → 2 ≤ h f → n + 1 ≤ sum_by h (range_with_len a n)
range_more h a zero f least below from two = absurd (omega arith)
range_more h a (suc n) f least below from two = elim (cases_eq f a) [
  | inl e ↦ (let more = sum_by-cons h a (range_with_len (a + 1) n) in
      let here : 2 ≤ h a = (let same = ap h e in omega (arith, same, two)) in
      let rest = range_least h (a + 1) n (λ g low high. least g (omega arith) (omega arith)) in
      omega (arith, more, here, rest))
  | inr other ↦ (let more = sum_by-cons h a (range_with_len (a + 1) n) in
      let here = least a (omega arith) (omega arith) in
      let rest = range_more h (a + 1) n f (λ g low high. least g (omega arith) (omega arith)) (omega arith) (omega arith) two in
      omega (arith, more, here, rest))
]

-- What no number of a range passes.

zero_one : (b : Bool) → one b ≡ 0 → b ≡ false
zero_one true h = absurd (omega arith)
zero_one false h = refl

pub none_of_range : (p : ℕ → Bool) (a n f : ℕ) → count_by p (range_with_len a n) ≡ 0 → f < a + n → a ≤ f → p f ≡ false
none_of_range p a zero f none below from = absurd (omega arith)
none_of_range p a (suc n) f none below from = elim (cases_eq f a) [
  | inl e ↦ ap p e ∙ zero_one (p a) (let more = sum_by-cons (λ x. one (p x)) a (range_with_len (a + 1) n) in omega (arith, more, none))
  | inr other ↦ none_of_range p (a + 1) n f (let more = sum_by-cons (λ x. one (p x)) a (range_with_len (a + 1) n) in omega (arith, more, none)) (omega arith) (omega arith)
]

pub none_found : (p : ℕ → Bool) (a n f : ℕ) → find p (range_with_len a n) ≡ None → f < a + n → a ≤ f → p f ≡ false
none_found p a zero f none below from = absurd (omega arith)
none_found p a (suc n) f none below from = elim (chosen (p a) (Some a) (find p (range_with_len (a + 1) n)) None none) [
  | inl w ↦ cc
  | inr w ↦ elim (cases_eq f a) [
    | inl e ↦ ap p e ∙ w.0
    | inr other ↦ none_found p (a + 1) n f w.1 (omega arith) (omega arith)
  ]
]
