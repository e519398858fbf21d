-- A list that is sorted by a key, those of equal keys as they stood, is the list in order of keys.
use Rattle.std.proofs.Common.{◌≡◌, ◌≢◌, ℕ, suc, ◌<◌, ◌≤◌, Bool, true, false, cond, List, [], ◌∷◌, length, get_or, refl, sym, ap, ◌∙◌, inl, inr, arith}
use Rattle.std.proofs.lemmas.Bool.{cases_Bool, cases_eq, cases_lt, false≢true, cond-true, cond-false, le-leb, lt-leb, lt-ltb, le-ltb}
use Rattle.std.specs.Prelude.{nat_le, nat_lt, ◌==◌}
use Rattle.std.specs.declared.cmp.Ordering.TheVariants.{Less, Equal, Greater}
use Rattle.std.specs.List.{filter}
use Rattle.std.specs.List.Sorted.{IsSortedByKey, IsStableByKey, IsNonDecreasingBy, ties}
use Rattle.std.specs.Ordering.{nat_cmp, is_lt}
use Rattle.std.proofs.lemmas.List.Sorted.{IsNonDecreasingBy-from_sort}
use Rattle.esx_types.specs.Listings.{with_placed, in_order}

-- neither of two elements comes before the other by its key
abbrev level : {X : Type 0} → (X → ℕ) → X → X → Bool
level key x y = ties (λ a b. is_lt (nat_cmp (key a) (key b))) x y

by_test : (b e : Bool) → is_lt (cond b Less (cond e Equal Greater)) ≡ b
by_test true e = refl
by_test false true = refl
by_test false false = refl

lt_is : (a b : ℕ) → is_lt (nat_cmp a b) ≡ nat_lt a b
lt_is a b = by_test (nat_lt a b) (a == b)

level_same : {X : Type 0} (key : X → ℕ) (x y : X) → key x ≡ key y → level key x y ≡ true
level_same key x y e =
    rw (lt_is (key x) (key y), lt_is (key y) (key x), le-ltb (key x) (key y) (omega arith), le-ltb (key y) (key x) (omega arith)) refl

level_apart : {X : Type 0} (key : X → ℕ) (x y : X) → key x ≢ key y → level key x y ≡ false
level_apart key x y d =
    elim (cases_lt (key x) (key y)) [
      | inl l ↦ rw (lt_is (key x) (key y), lt-ltb (key x) (key y) l) refl
      | inr m ↦
          let l : key y < key x = omega arith in
          rw (lt_is (key x) (key y), lt_is (key y) (key x), le-ltb (key x) (key y) m, lt-ltb (key y) (key x) l) refl
    ]

-- no key is below this number
abbrev AllFrom : {X : Type 0} → (X → ℕ) → ℕ → List X → Type 0
AllFrom key k [] = Unit {0}
AllFrom key k (x ∷ xs) = (k ≤ key x) × AllFrom key k xs

-- keys do not fall
abbrev Rises : {X : Type 0} → (X → ℕ) → List X → Type 0
Rises key [] = Unit {0}
Rises key (x ∷ xs) = AllFrom key (key x) xs × Rises key xs

AllFrom-at : {X : Type 0} (key : X → ℕ) (k : ℕ) (xs : List X) → ((i : ℕ) (d : X) → i < length xs → k ≤ key (get_or xs i d)) → AllFrom key k xs
AllFrom-at key k [] h = tt
AllFrom-at key k (x ∷ xs) h = (h 0 x (omega arith), AllFrom-at key k xs (λ i d l. h (suc i) d (omega arith)))

Rises-sorted : {X : Type 0} (key : X → ℕ) (xs : List X) → IsNonDecreasingBy key xs → Rises key xs
Rises-sorted key [] h = tt
Rises-sorted key (x ∷ xs) h =
    (AllFrom-at key (key x) xs (λ i d l. h 0 (suc i) d (omega arith) (omega arith)), Rises-sorted key xs (λ i j d l m. h (suc i) (suc j) d (omega arith) (omega arith)))

AllFrom-less : {X : Type 0} (key : X → ℕ) (j k : ℕ) (xs : List X) → j ≤ k → AllFrom key k xs → AllFrom key j xs
AllFrom-less key j k [] l h = tt
AllFrom-less key j k (x ∷ xs) l h = (omega (arith, h.0), AllFrom-less key j k xs l h.1)

-- an element whose key is below all ties with none
filter_below : {X : Type 0} (key : X → ℕ) (x : X) (k : ℕ) (ys : List X) → key x < k → AllFrom key k ys → filter (level key x) ys ≡ []
filter_below key x k [] l h = refl
filter_below key x k (y ∷ ys) l h =
    cond-false (level key x y) _ _ (level_apart key x y (omega (arith, h.0))) ∙ filter_below key x k ys l h.1

placed_from : {X : Type 0} (key : X → ℕ) (k : ℕ) (x : X) (ys : List X) → k ≤ key x → AllFrom key k ys → AllFrom key k (with_placed key x ys)
placed_from key k x [] l h = (l, tt)
placed_from key k x (y ∷ ys) l h =
    elim (cases_Bool (nat_le (key x) (key y))) [
      | inl e ↦ rw e (l, h)
      | inr e ↦ rw e (h.0, placed_from key k x ys l h.1)
    ]

placed_rises : {X : Type 0} (key : X → ℕ) (x : X) (ys : List X) → Rises key ys → Rises key (with_placed key x ys)
placed_rises key x [] h = (tt, tt)
placed_rises key x (y ∷ ys) h =
    elim (cases_lt (key y) (key x)) [
      | inl l ↦ rw (lt-leb (key x) (key y) l) (placed_from key (key y) x ys (omega arith) h.0, placed_rises key x ys h.1)
      | inr m ↦ rw (le-leb (key x) (key y) m) ((m, AllFrom-less key (key x) (key y) ys m h.0), h)
    ]

in_order_rises : {X : Type 0} (key : X → ℕ) (xs : List X) → Rises key (in_order key xs)
in_order_rises key [] = tt
in_order_rises key (x ∷ xs) = placed_rises key x (in_order key xs) (in_order_rises key xs)

level_true : {X : Type 0} (key : X → ℕ) (x y : X) → level key x y ≡ true → key x ≡ key y
level_true key x y e =
    elim (cases_eq (key x) (key y)) [
      | inl same ↦ same
      | inr d ↦ absurd (false≢true (sym (level_apart key x y d) ∙ e))
    ]

-- of two elements that do not both pass it does not matter which comes first
either_first : {X : Type 0} (p q : Bool) (x y : X) (r s : List X) → (p ≡ true → q ≡ true → ⊥) → r ≡ cond p (x ∷ s) s → cond q (y ∷ r) r ≡ cond p (x ∷ cond q (y ∷ s) s) (cond q (y ∷ s) s)
either_first true true x y r s apart e = absurd (apart refl refl)
either_first true false x y r s apart e = e
either_first false true x y r s apart e = ap (λ t. y ∷ t) e
either_first false false x y r s apart e = e

placed_levels : {X : Type 0} (key : X → ℕ) (z x : X) (ys : List X) → filter (level key z) (with_placed key x ys) ≡ filter (level key z) (x ∷ ys)
placed_levels key z x [] = refl
placed_levels key z x (y ∷ ys) =
    elim (cases_lt (key y) (key x)) [
      | inl l ↦
          let apart : level key z x ≡ true → level key z y ≡ true → ⊥ = λ e f. omega (arith, level_true key z x e, level_true key z y f) in
          rw (lt-leb (key x) (key y) l) (either_first (level key z x) (level key z y) x y (filter (level key z) (with_placed key x ys)) (filter (level key z) ys) apart (placed_levels key z x ys))
      | inr m ↦ rw (le-leb (key x) (key y) m) refl
    ]

in_order_levels : {X : Type 0} (key : X → ℕ) (z : X) (xs : List X) → filter (level key z) (in_order key xs) ≡ filter (level key z) xs
in_order_levels key z [] = refl
in_order_levels key z (x ∷ xs) =
    placed_levels key z x (in_order key xs) ∙ ap (λ r. cond (level key z x) (x ∷ r) r) (in_order_levels key z xs)

filter_first : {X : Type 0} (key : X → ℕ) (x y : X) (ys : List X) → key x ≡ key y → filter (level key x) (y ∷ ys) ≡ y ∷ filter (level key x) ys
filter_first key x y ys e = cond-true (level key x y) _ _ (level_same key x y e)

not_below : {X : Type 0} (key : X → ℕ) (x y : X) (xs ys : List X) → AllFrom key (key y) ys → filter (level key x) (x ∷ xs) ≡ filter (level key x) (y ∷ ys) → key x < key y → ⊥
not_below key x y xs ys h same l =
    let none : filter (level key x) (y ∷ ys) ≡ [] = filter_below key x (key y) (y ∷ ys) l (omega arith, h) in
    let some : filter (level key x) (x ∷ xs) ≡ x ∷ filter (level key x) xs = filter_first key x x xs refl in
    let e : x ∷ filter (level key x) xs ≡ [] = sym some ∙ same ∙ none in
    cc

same_rest : {X : Type 0} (b : Bool) (x : X) (r s : List X) → cond b (x ∷ r) r ≡ cond b (x ∷ s) s → r ≡ s
same_rest true x r s e = cc
same_rest false x r s e = e

same_rising : {X : Type 0} (key : X → ℕ) (xs ys : List X) → Rises key xs → Rises key ys → ((z : X) → filter (level key z) xs ≡ filter (level key z) ys) → xs ≡ ys
same_rising key [] [] h i same = refl
same_rising key [] (y ∷ ys) h i same =
    let e : [] ≡ y ∷ filter (level key y) ys = same y ∙ filter_first key y y ys refl in
    cc
same_rising key (x ∷ xs) [] h i same =
    let e : x ∷ filter (level key x) xs ≡ [] = sym (filter_first key x x xs refl) ∙ same x in
    cc
same_rising {X = X} key (x ∷ xs) (y ∷ ys) h i same =
    let up = not_below key x y xs ys i.0 (same x) in
    let down = not_below key y x ys xs h.0 (sym (same y)) in
    let level_keys : key x ≡ key y = omega arith in
    let firsts : x ∷ filter (level key x) xs ≡ y ∷ filter (level key x) ys = sym (filter_first key x x xs refl) ∙ same x ∙ filter_first key x y ys level_keys in
    let first : x ≡ y = cc firsts in
    let rest : (z : X) → filter (level key z) xs ≡ filter (level key z) ys = λ z. same_rest (level key z x) x _ _ (same z ∙ ap (λ t. filter (level key z) (t ∷ ys)) (sym first)) in
    ap (λ t. t ∷ xs) first ∙ ap (λ t. y ∷ t) (same_rising key xs ys h.1 i.1 rest)

pub in_order-from_sort : {X : Type 0} (key : X → ℕ) (xs ys : List X) → IsSortedByKey key nat_cmp ys → IsStableByKey key nat_cmp xs ys → ys ≡ in_order key xs
in_order-from_sort key xs ys sorted stable =
    same_rising key ys (in_order key xs) (Rises-sorted key ys (IsNonDecreasingBy-from_sort key ys sorted)) (in_order_rises key xs) (λ z. stable z ∙ sym (in_order_levels key z xs))
