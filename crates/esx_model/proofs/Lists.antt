-- Lists: what differs at one place, tables of a function, and what holds of each element.
use Rattle.std.proofs.Common.{zero, suc, ◌≡◌, ◌≢◌, ℕ, ◌+◌, ◌<◌, Bool, true, false, ◌||◌, not, List, [], ◌∷◌, ◌++◌, length, length-append, map, get_or, set, take, drop, count_by, refl, sym, ap, ◌∙◌, append_assoc, arith, cond, Option, Some, None, inl, inr, ◌⊎◌, ◌==◌, subst}
use Rattle.std.proofs.lemmas.List.{get_or-set_same, get_or-set_other, length-set}
use Rattle.std.proofs.lemmas.List.FromFn.{fill_by_all, length-map-range_with_len, get_or-map-range_with_len}
use Rattle.std.proofs.lemmas.Bool.{cases_eq}
use Rattle.std.proofs.lemmas.Bool.Decides.{nat_tests}
use Rattle.std.specs.List.{flat_map, filter, list_any, AllByRecursion, range_with_len, find}
use Rattle.std.proofs.lemmas.List.{set_split}
use Rattle.std.proofs.lemmas.Grind.{common_steps, flat_map-append}
use Rattle.std.proofs.lemmas.List.Elements.{filter-append}
use Rattle.std.proofs.lemmas.List.Folds.{list_any-append}
use Rattle.std.proofs.lemmas.List.Sums.{sum_by-append, sum_by-cons}

-- xs has x where ys has y, and else they are one
pub record Changed {X : Type 0} (x y : X) (xs ys : List X) : Type 0 where
  pub front : List X
  pub back : List X
  pub before : xs ≡ front ++ x ∷ back
  pub after : ys ≡ front ++ y ∷ back

-- a list round one of its elements
pub split_at_index : {X : Type 0} (xs : List X) (i : ℕ) (d : X) → i < length xs → xs ≡ take i xs ++ get_or xs i d ∷ drop (i + 1) xs
split_at_index xs i d h = grind (arith, common_steps, set_split)

pub changed_by_set : {X : Type 0} (xs : List X) (i : ℕ) (y d : X) → i < length xs → Changed (get_or xs i d) y xs (set xs i y)
changed_by_set xs i y d h = record { front = take i xs; back = drop (i + 1) xs; before = split_at_index xs i d h; after = grind (arith, common_steps, set_split) }

pub changed_inside : {A X : Type 0} (f : A → List X) (a b : A) (xs ys : List A) (x y : X) → Changed a b xs ys → Changed x y (f a) (f b) → Changed x y (flat_map f xs) (flat_map f ys)
changed_inside f a b xs ys x y outer inner = record {
  front = flat_map f outer.front ++ inner.front;
  back = inner.back ++ flat_map f outer.back;
  before = ap (flat_map f) outer.before ∙ flat_map-append f outer.front (a ∷ outer.back) ∙ ap (λ m. flat_map f outer.front ++ (m ++ flat_map f outer.back)) inner.before ∙ simp append_assoc;
  after = ap (flat_map f) outer.after ∙ flat_map-append f outer.front (b ∷ outer.back) ∙ ap (λ m. flat_map f outer.front ++ (m ++ flat_map f outer.back)) inner.after ∙ simp append_assoc;
}

pub same_inside : {A X : Type 0} (f : A → List X) (a b : A) (xs ys : List A) → Changed a b xs ys → f a ≡ f b → flat_map f ys ≡ flat_map f xs
same_inside f a b xs ys outer same =
    ap (flat_map f) outer.after ∙ flat_map-append f outer.front (b ∷ outer.back) ∙ ap (λ m. flat_map f outer.front ++ (m ++ flat_map f outer.back)) (sym same)
    ∙ sym (ap (flat_map f) outer.before ∙ flat_map-append f outer.front (a ∷ outer.back))

pub filter_before : {X : Type 0} (q : X → Bool) (x y : X) (xs ys : List X) (h : Changed x y xs ys) → filter q xs ≡ filter q h.front ++ cond (q x) (x ∷ filter q h.back) (filter q h.back)
filter_before q x y xs ys h = ap (filter q) h.before ∙ filter-append q h.front (x ∷ h.back)

pub filter_after : {X : Type 0} (q : X → Bool) (x y : X) (xs ys : List X) (h : Changed x y xs ys) → filter q ys ≡ filter q h.front ++ cond (q y) (y ∷ filter q h.back) (filter q h.back)
filter_after q x y xs ys h = ap (filter q) h.after ∙ filter-append q h.front (y ∷ h.back)

-- neither passes
pub filter_neither : {X : Type 0} (q : X → Bool) (x y : X) (xs ys : List X) → Changed x y xs ys → q x ≡ false → q y ≡ false → filter q ys ≡ filter q xs
filter_neither q x y xs ys h a b =
    let before = filter_before q x y xs ys h in
    let after = filter_after q x y xs ys h in
    let one = rw a at before in
    let two = rw b at after in
    two ∙ sym one

no_front : {X : Type 0} (fs bs : List X) → fs ++ bs ≡ [] → fs ≡ []
no_front [] bs h = refl
no_front (a ∷ fs) bs h = cc

no_back : {X : Type 0} (fs bs : List X) → fs ++ bs ≡ [] → bs ≡ []
no_back [] bs h = h
no_back (a ∷ fs) bs h = cc

-- none passed, and y does
pub filter_enters : {X : Type 0} (q : X → Bool) (x y : X) (xs ys : List X) → Changed x y xs ys → q x ≡ false → q y ≡ true → filter q xs ≡ [] → filter q ys ≡ y ∷ []
filter_enters q x y xs ys h a b none =
    let before = filter_before q x y xs ys h in
    let after = filter_after q x y xs ys h in
    let one = rw a at before in
    let two = rw b at after in
    let front = no_front (filter q h.front) (filter q h.back) (sym one ∙ none) in
    let back = no_back (filter q h.front) (filter q h.back) (sym one ∙ none) in
    two ∙ ap (λ m. m ++ y ∷ filter q h.back) front ∙ ap (λ m. y ∷ m) back

alone_front : {X : Type 0} (fs bs : List X) (x : X) → fs ++ x ∷ bs ≡ x ∷ [] → fs ≡ []
alone_front [] bs x h = refl
alone_front (a ∷ fs) bs x h = absurd (omega (arith, ap length h, length-append fs (x ∷ bs)))

alone_back : {X : Type 0} (fs bs : List X) (x : X) → fs ++ x ∷ bs ≡ x ∷ [] → bs ≡ []
alone_back [] bs x h = cc
alone_back (a ∷ fs) bs x h = absurd (omega (arith, ap length h, length-append fs (x ∷ bs)))

-- x alone passed, and y does
pub filter_stays : {X : Type 0} (q : X → Bool) (x y : X) (xs ys : List X) → Changed x y xs ys → q x ≡ true → q y ≡ true → filter q xs ≡ x ∷ [] → filter q ys ≡ y ∷ []
filter_stays q x y xs ys h a b alone =
    let before = filter_before q x y xs ys h in
    let after = filter_after q x y xs ys h in
    let one = rw a at before in
    let two = rw b at after in
    let front = alone_front (filter q h.front) (filter q h.back) x (sym one ∙ alone) in
    let back = alone_back (filter q h.front) (filter q h.back) x (sym one ∙ alone) in
    two ∙ ap (λ m. m ++ y ∷ filter q h.back) front ∙ ap (λ m. y ∷ m) back

-- Tables whose row at each place is a function of the place.

pub rows_same : {R : Type 0} (h k : ℕ → R) (a n : ℕ) → ((g : ℕ) → k g ≡ h g) → map k (range_with_len a n) ≡ map h (range_with_len a n)
rows_same h k a zero same = refl
rows_same {R = R} h k a (suc n) same = ap (λ (r : R). r ∷ map k (range_with_len (a + 1) n)) (same a) ∙ ap (λ (rs : List R). h a ∷ rs) (rows_same h k (a + 1) n same)

row_moves : {R : Type 0} (h k : ℕ → R) (f n : ℕ) (row d : R) → k f ≡ row → ((g : ℕ) → g ≢ f → k g ≡ h g) → f < n → (g : ℕ) → g < n
    → get_or (set (map h (range_with_len 0 n)) f row) g d ≡ k g
row_moves {R = R} h k f n row d there others below g small =
    let rows : List R = map h (range_with_len 0 n) in
    let len : length rows ≡ n = length-map-range_with_len h 0 n in
    elim (cases_eq g f) [
      | inl e ↦ (let within : f < length rows = omega arith in
          ap (λ (j : ℕ). get_or (set rows f row) j d) e ∙ get_or-set_same rows f row d within ∙ sym there ∙ ap k (sym e))
      | inr other ↦ get_or-set_other rows f g row d other ∙ get_or-map-range_with_len h 0 n g g d small (omega arith) ∙ sym (others g other)
    ]

pub rows_move : {R : Type 0} (h k : ℕ → R) (f n : ℕ) (row d : R) → k f ≡ row → ((g : ℕ) → g ≢ f → k g ≡ h g) → f < n
    → map k (range_with_len 0 n) ≡ set (map h (range_with_len 0 n)) f row
rows_move h k f n row d there others below =
    sym (fill_by_all k (set (map h (range_with_len 0 n)) f row) n d (length-set (map h (range_with_len 0 n)) f row ∙ length-map-range_with_len h 0 n) (row_moves h k f n row d there others below))

pub row_in_rows : {R : Type 0} (h : ℕ → R) (n f : ℕ) (d : R) → f < n → get_or (map h (range_with_len 0 n)) f d ≡ h f
row_in_rows h n f d below = get_or-map-range_with_len h 0 n f f d below (omega arith)

-- a list set twice
pub set_again : {A : Type 0} (xs : List A) (i : ℕ) (x y : A) → set (set xs i x) i y ≡ set xs i y
set_again [] i x y = refl
set_again (z ∷ zs) zero x y = refl
set_again {A = A} (z ∷ zs) (suc i) x y = ap (λ (l : List A). z ∷ l) (set_again zs i x y)

pub set_there : {A : Type 0} (xs : List A) (i : ℕ) (d : A) → set xs i (get_or xs i d) ≡ xs
set_there [] i d = refl
set_there (z ∷ zs) zero d = refl
set_there {A = A} (z ∷ zs) (suc i) d = ap (λ (l : List A). z ∷ l) (set_there zs i d)

-- What holds of each element.

pub all_map : {X : Type 0} (P Q : X → Type 0) → ((x : X) → P x → Q x) → (xs : List X) → AllByRecursion P xs → AllByRecursion Q xs
all_map P Q go [] h = tt
all_map P Q go (x ∷ xs) h = (go x h.0, all_map P Q go xs h.1)

pub all_set : {X : Type 0} (P : X → Type 0) (xs : List X) (i : ℕ) (y : X) → AllByRecursion P xs → P y → AllByRecursion P (set xs i y)
all_set P [] i y h p = tt
all_set P (x ∷ xs) zero y h p = (p, h.1)
all_set P (x ∷ xs) (suc i) y h p = (h.0, all_set P xs i y h.1 p)

pub all_at : {X : Type 0} (P : X → Type 0) (xs : List X) (i : ℕ) (d : X) → AllByRecursion P xs → i < length xs → P (get_or xs i d)
all_at P [] i d h below = absurd (omega arith)
all_at P (x ∷ xs) zero d h below = h.0
all_at P (x ∷ xs) (suc i) d h below = all_at P xs i d h.1 (omega arith)

pub all_append : {X : Type 0} (P : X → Type 0) (xs ys : List X) → AllByRecursion P xs → AllByRecursion P ys → AllByRecursion P (xs ++ ys)
all_append P [] ys h k = k
all_append P (x ∷ xs) ys h k = (h.0, all_append P xs ys h.1 k)

pub all_front : {X : Type 0} (P : X → Type 0) (xs ys : List X) → AllByRecursion P (xs ++ ys) → AllByRecursion P xs
all_front P [] ys h = tt
all_front P (x ∷ xs) ys h = (h.0, all_front P xs ys h.1)

pub all_back : {X : Type 0} (P : X → Type 0) (xs ys : List X) → AllByRecursion P (xs ++ ys) → AllByRecursion P ys
all_back P [] ys h = h
all_back P (x ∷ xs) ys h = all_back P xs ys h.1

-- Tests and searches.

pub chosen : {X : Type 0} (b : Bool) (x y z : X) → cond b x y ≡ z → ((b ≡ true) × (x ≡ z)) ⊎ ((b ≡ false) × (y ≡ z))
chosen true x y z h = inl (refl, h)
chosen false x y z h = inr (refl, h)

pub or_false : (a b : Bool) → (a || b) ≡ false → (a ≡ false) × (b ≡ false)
or_false false b h = (refl, h)
or_false true b h = cc

pub either : (a b : Bool) → (a || b) ≡ true → (a ≡ true) ⊎ (b ≡ true)
either true b h = inl refl
either false b h = inr h

pub not_true : (b : Bool) → not b ≡ true → b ≡ false
not_true true h = cc
not_true false h = refl

pub eqb_same : (f : ℕ) → (f == f) ≡ true
eqb_same f = grind (arith, nat_tests)

pub eqb_other : (f g : ℕ) → g ≢ f → (f == g) ≡ false
eqb_other f g h = grind (arith, nat_tests)

pub some_same : {X : Type 0} (x y : X) → Some x ≡ Some y → x ≡ y
some_same x y h = cc

-- what is found passes
pub find_passes : {X : Type 0} (p : X → Bool) (xs : List X) (x : X) → find p xs ≡ Some x → p x ≡ true
find_passes p [] x h = cc
find_passes p (y ∷ ys) x h =
    elim (chosen (p y) (Some y) (find p ys) (Some x) h) [
      | inl w ↦ ap p (sym (some_same y x w.1)) ∙ w.0
      | inr w ↦ find_passes p ys x w.1
    ]

pub find_in_range : (p : ℕ → Bool) (a n x : ℕ) → find p (range_with_len a n) ≡ Some x → x < a + n
find_in_range p a zero x h = cc
find_in_range p a (suc n) x h =
    elim (chosen (p a) (Some a) (find p (range_with_len (a + 1) n)) (Some x) h) [
      | inl w ↦ (let e = some_same a x w.1 in omega arith)
      | inr w ↦ (let below = find_in_range p (a + 1) n x w.1 in omega arith)
    ]

pub any_none : {X : Type 0} (p : X → Bool) (xs : List X) → list_any p xs ≡ false → filter p xs ≡ []
any_none p [] h = refl
any_none p (x ∷ xs) h =
    let parts = or_false (p x) (list_any p xs) h in
    ap (λ b. cond b (x ∷ filter p xs) (filter p xs)) parts.0 ∙ any_none p xs parts.1

pub not_none : {X : Type 0} (fs bs : List X) (x : X) → fs ++ x ∷ bs ≡ [] → ⊥
not_none [] bs x h = cc
not_none (f ∷ fs) bs x h = cc

-- a place with a machine is one of the places
pub some_below : {X : Type 0} (xs : List (Option X)) (n : ℕ) (x : X) → get_or xs n None ≡ Some x → n < length xs
some_below [] n x h = cc
some_below (o ∷ os) zero x h = omega arith
some_below (o ∷ os) (suc n) x h = let below = some_below os n x h in omega arith

-- what one element adds to a count
abbrev pub one : Bool → ℕ
one b = cond b 1 0

-- One element more.

pub record Inserted {X : Type 0} (x : X) (xs ys : List X) : Type 0 where
  pub front : List X
  pub back : List X
  pub before : xs ≡ front ++ back
  pub after : ys ≡ front ++ x ∷ back

-- a part that has one more at its end
pub inserted_inside : {A X : Type 0} (h : A → List X) (a b : A) (xs ys : List A) (x : X) → Changed a b xs ys → h b ≡ h a ++ x ∷ [] → Inserted x (flat_map h xs) (flat_map h ys)
inserted_inside {X = X} h a b xs ys x outer more = record {
  front = flat_map h outer.front ++ h a;
  back = flat_map h outer.back;
  before = ap (flat_map h) outer.before ∙ flat_map-append h outer.front (a ∷ outer.back) ∙ simp append_assoc;
  after = ap (flat_map h) outer.after ∙ flat_map-append h outer.front (b ∷ outer.back) ∙ ap (λ (m : List X). flat_map h outer.front ++ (m ++ flat_map h outer.back)) more ∙ simp append_assoc;
}

pub listed_more : (p : ℕ → Bool) (x : ℕ) (xs ys : List ℕ) → Inserted x xs ys → list_any p ys ≡ (list_any p xs || p x)
listed_more p x xs ys i =
    ap (list_any p) i.after ∙ list_any-append p i.front (x ∷ i.back) ∙ swapped (list_any p i.front) (p x) (list_any p i.back)
    ∙ ap (λ b. b || p x) (sym (ap (list_any p) i.before ∙ list_any-append p i.front i.back))
  where
    swapped : (a b c : Bool) → (a || (b || c)) ≡ ((a || c) || b)
    swapped true b c = refl
    swapped false true true = refl
    swapped false true false = refl
    swapped false false true = refl
    swapped false false false = refl

pub counted_more : (p : ℕ → Bool) (x : ℕ) (xs ys : List ℕ) → Inserted x xs ys → count_by p ys ≡ count_by p xs + cond (p x) 1 0
counted_more p x xs ys i =
    let f = λ (y : ℕ). cond (p y) 1 0 in
    let after = ap (count_by p) i.after in
    let before = ap (count_by p) i.before in
    let split = sum_by-append f i.front (x ∷ i.back) in
    let whole = sum_by-append f i.front i.back in
    let more = sum_by-cons f x i.back in
    omega (arith, after, before, split, whole, more)

pub all_more : (P : ℕ → Type 0) (x : ℕ) (xs ys : List ℕ) → Inserted x xs ys → P x → AllByRecursion P xs → AllByRecursion P ys
all_more P x xs ys i p h =
    let Q : List ℕ → Type 0 = AllByRecursion P in
    let parts = subst Q i.before h in
    subst Q (sym i.after) (all_append P i.front (x ∷ i.back) (all_front P i.front i.back parts) (p, all_back P i.front i.back parts))

pub all_fewer : (P : ℕ → Type 0) (x : ℕ) (xs ys : List ℕ) → Inserted x xs ys → AllByRecursion P ys → AllByRecursion P xs
all_fewer P x xs ys i h =
    let Q : List ℕ → Type 0 = AllByRecursion P in
    let parts = subst Q i.after h in
    subst Q (sym i.before) (all_append P i.front i.back (all_front P i.front (x ∷ i.back) parts) (all_back P i.front (x ∷ i.back) parts).1)

pub none_listed : (f : ℕ) (xs : List ℕ) → list_any (λ g. g == f) xs ≡ false → count_by (λ g. g == f) xs ≡ 0
none_listed f [] h = refl
none_listed f (x ∷ xs) h =
    let parts = or_false (x == f) (list_any (λ g. g == f) xs) h in
    let more = sum_by-cons (λ y. cond (y == f) 1 0) x xs in
    let none : one (x == f) ≡ 0 = ap one parts.0 in
    let rest = none_listed f xs parts.1 in
    omega (arith, more, none, rest)

none_counted_one : {X : Type 0} (p q : X → Bool) (x : X) (xs : List X) → ((x : X) → q x ≡ true → p x ≡ true) → count_by p (x ∷ xs) ≡ 0 → (count_by p xs ≡ 0 → filter q xs ≡ []) → (b : Bool) → q x ≡ b → filter q (x ∷ xs) ≡ []
none_counted_one p q x xs within h rest false e =
    let more = sum_by-cons (λ y. cond (p y) 1 0) x xs in
    let tail : count_by p xs ≡ 0 = omega arith in
    ap (λ b. cond b (x ∷ filter q xs) (filter q xs)) e ∙ rest tail
none_counted_one p q x xs within h rest true e =
    absurd (let more = sum_by-cons (λ y. cond (p y) 1 0) x xs in let some : one (p x) ≡ 1 = ap one (within x e) in omega (arith, more, some, h))

-- nothing passes where none is counted
pub none_counted : {X : Type 0} (p q : X → Bool) (xs : List X) → ((x : X) → q x ≡ true → p x ≡ true) → count_by p xs ≡ 0 → filter q xs ≡ []
none_counted p q [] within h = refl
none_counted p q (x ∷ xs) within h = none_counted_one p q x xs within h (λ t. none_counted p q xs within t) (q x) refl

pub flipped : {X : Type 0} (x y : X) (xs ys : List X) → Changed x y xs ys → Changed y x ys xs
flipped x y xs ys h = record { front = h.front; back = h.back; before = h.after; after = h.before }

filter_parts : {A X : Type 0} (q : X → Bool) (h : A → List X) (xs : List A) → filter q (flat_map h xs) ≡ flat_map (λ a. filter q (h a)) xs
filter_parts q h [] = refl
filter_parts {X = X} q h (x ∷ xs) = filter-append q (h x) (flat_map h xs) ∙ ap (λ (m : List X). filter q (h x) ++ m) (filter_parts q h xs)

-- a part with as many that pass leaves all that pass
pub filter_inside : {A X : Type 0} (q : X → Bool) (h : A → List X) (a b : A) (xs ys : List A) → Changed a b xs ys → filter q (h a) ≡ filter q (h b) → filter q (flat_map h ys) ≡ filter q (flat_map h xs)
filter_inside q h a b xs ys ch same = filter_parts q h ys ∙ same_inside (λ a. filter q (h a)) a b xs ys ch same ∙ sym (filter_parts q h xs)

pub all_middle : {X : Type 0} (P : X → Type 0) (fs bs : List X) (x : X) → AllByRecursion P (fs ++ x ∷ bs) → P x
all_middle P [] bs x h = h.0
all_middle P (f ∷ fs) bs x h = all_middle P fs bs x h.1

pub find_in : {X : Type 0} (p : X → Bool) (xs : List X) (x : X) → find p xs ≡ Some x → (front : List X) × (back : List X) × (xs ≡ front ++ x ∷ back)
find_in p [] x h = cc
find_in {X = X} p (y ∷ ys) x h = elim (chosen (p y) (Some y) (find p ys) (Some x) h) [
  | inl w ↦ ([], ys, (let e = w.1 in cc))
  | inr w ↦ (let rest = find_in p ys x w.1 in (y ∷ rest.0, rest.1, ap (λ (m : List X). y ∷ m) rest.2))
]
