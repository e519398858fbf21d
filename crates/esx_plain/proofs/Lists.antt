-- What a list begins with, and what is told of the lists that a list leads to.
use Rattle.std.proofs.Common.{◌≡◌, ℕ, ◌+◌, Bool, true, false, ◌||◌, List, [], ◌∷◌, refl, sym, ap, ◌∙◌, cond, Option, Some, None, sum_by}
use Rattle.std.specs.List.{flat_map, filter, find, list_any, count_by}
use Rattle.std.proofs.lemmas.List.Folds.{list_any-append}
use Rattle.std.proofs.lemmas.List.Sums.{sum_by-append, sum_by-cons}

-- a list that begins with x
pub record BeginsWith {X : Type 0} (xs : List X) (x : X) : Type 0 where
  pub rest : List X
  pub is : xs ≡ x ∷ rest

-- what passes begins with the first element that passes
pub filter_some : {X : Type 0} (q : X → Bool) (xs : List X) (x : X) → find q xs ≡ Some x → BeginsWith (filter q xs) x
filter_some q [] x h = cc
filter_some q (y ∷ ys) x h = by_test (q y) y x (find q ys) (filter q ys) (filter_some q ys x) h
  where
    by_test : {X : Type 0} (b : Bool) (y x : X) (o : Option X) (fs : List X) → (o ≡ Some x → BeginsWith fs x) → cond b (Some y) o ≡ Some x → BeginsWith (cond b (y ∷ fs) fs) x
    by_test true y x o fs k h = record { rest = fs; is = cc }
    by_test false y x o fs k h = k h

pub filter_none : {X : Type 0} (q : X → Bool) (xs : List X) → find q xs ≡ None → filter q xs ≡ []
filter_none q [] h = refl
filter_none q (y ∷ ys) h = by_test (q y) y (find q ys) (filter q ys) (filter_none q ys) h
  where
    by_test : {X : Type 0} (b : Bool) (y : X) (o : Option X) (fs : List X) → (o ≡ None → fs ≡ []) → cond b (Some y) o ≡ None → cond b (y ∷ fs) fs ≡ []
    by_test true y o fs k h = cc
    by_test false y o fs k h = k h

-- a test of what a list of lists has, list by list
pub any_inside : {A X : Type 0} (q : X → Bool) (f : A → List X) (xs : List A) → list_any q (flat_map f xs) ≡ list_any (λ a. list_any q (f a)) xs
any_inside q f [] = refl
any_inside q f (x ∷ xs) = list_any-append q (f x) (flat_map f xs) ∙ ap (λ b. list_any q (f x) || b) (any_inside q f xs)

pub count_inside : {A X : Type 0} (q : X → Bool) (f : A → List X) (xs : List A) → count_by q (flat_map f xs) ≡ sum_by (λ a. count_by q (f a)) xs
count_inside q f [] = refl
count_inside q f (x ∷ xs) =
    sum_by-append (λ y. cond (q y) 1 0) (f x) (flat_map f xs) ∙ ap (λ n. count_by q (f x) + n) (count_inside q f xs) ∙ sym (sum_by-cons (λ a. count_by q (f a)) x xs)

-- sums of what is the same at each element
pub sum_by_same : {A : Type 0} (f g : A → ℕ) (xs : List A) → ((a : A) → f a ≡ g a) → sum_by f xs ≡ sum_by g xs
sum_by_same f g [] same = refl
sum_by_same f g (x ∷ xs) same = sum_by-cons f x xs ∙ ap (λ n. n + sum_by f xs) (same x) ∙ ap (λ n. g x + n) (sum_by_same f g xs same) ∙ sym (sum_by-cons g x xs)
