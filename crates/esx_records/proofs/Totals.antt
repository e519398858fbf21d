-- Sums over changes, and what a trade of all of them leaves of a sum.
use Rattle.std.proofs.Common.{◌≡◌, ℕ, ◌+◌, ◌≤◌, Bool, List, [], ◌∷◌, ◌++◌, map, sum_by, refl, sym, ap, ◌∙◌, arith, cond}
use Rattle.std.specs.List.{AllByRecursion}
use Rattle.std.proofs.lemmas.List.Sums.{sum_by-append, sum_by-cons}
use Rattle.esx_lists.specs.Trades.{in_turn}
use Rattle.esx_model.specs.declared.tables.Tables.{Tables}
use Rattle.esx_tables.specs.declared.change.Change.{Change}
use Rattle.esx_tables.specs.Changes.{traded}

abbrev pub total : {X : Type 0} → (X → ℕ) → List X → ℕ
total f [] = 0
total f (x ∷ xs) = f x + total f xs

pub total_is : {X : Type 0} (f : X → ℕ) (xs : List X) → sum_by f xs ≡ total f xs
total_is f [] = refl
total_is f (x ∷ xs) = sum_by-cons f x xs ∙ ap (λ n. f x + n) (total_is f xs)

pub total-append : {X : Type 0} (f : X → ℕ) (xs ys : List X) → total f (xs ++ ys) ≡ total f xs + total f ys
total-append f xs ys = sym (total_is f (xs ++ ys)) ∙ sum_by-append f xs ys ∙ ap (λ n. n + sum_by f ys) (total_is f xs) ∙ ap (λ n. total f xs + n) (total_is f ys)

pub total-map : {X Y : Type 0} (f : Y → ℕ) (g : X → Y) (xs : List X) → total f (map g xs) ≡ total (λ x. f (g x)) xs
total-map f g [] = refl
total-map f g (x ∷ xs) = ap (λ n. f (g x) + n) (total-map f g xs)

-- one for each that passes
abbrev pub one_if : {X : Type 0} → (X → Bool) → X → ℕ
one_if p x = cond (p x) 1 0

-- each is at most the total
pub each_within : {X : Type 0} (f : X → ℕ) (m : ℕ) (xs : List X) → total f xs ≤ m → AllByRecursion (λ x. f x ≤ m) xs
each_within f m [] h = tt
each_within f m (x ∷ xs) h = (omega (arith, h), each_within f m xs (omega (arith, h)))

-- the changes that lead back
abbrev pub back : Tables → List Change → List Change
back t changes = (in_turn traded t changes).1

pub total_back : (f : Change → ℕ) (t : Tables) (change : Change) (changes : List Change) → total f (back t (change ∷ changes)) ≡ f (traded t change).1 + total f (back (traded t change).0 changes)
total_back f t change changes =
    let split = total-append f (back (traded t change).0 changes) ((traded t change).1 ∷ []) in
    omega (arith, split)

-- what a trade keeps of each change it keeps of the sum
pub kept_back : (f : Change → ℕ) → ((t : Tables) (change : Change) → f (traded t change).1 ≡ f change) → (t : Tables) (changes : List Change) → total f (back t changes) ≡ total f changes
kept_back f same t [] = refl
kept_back f same t (change ∷ changes) =
    let split = total_back f t change changes in
    let one = same t change in
    let rest = kept_back f same (traded t change).0 changes in
    omega (arith, split, one, rest)

-- What a trade bounds of each change, as long as something holds of the tables that trades keep, it bounds of the sum.
pub bounded_back : (I : Tables → Type 0) (K : Change → Type 0) (f g : Change → ℕ)
    → ((t : Tables) (change : Change) → I t → K change → I (traded t change).0 × (f (traded t change).1 ≤ g change))
    → (t : Tables) (changes : List Change) → I t → AllByRecursion K changes → total f (back t changes) ≤ total g changes
bounded_back I K f g each t [] holds known = omega arith
bounded_back I K f g each t (change ∷ changes) holds known =
    let split = total_back f t change changes in
    let one = each t change holds known.0 in
    let less = one.1 in
    let rest = bounded_back I K f g each (traded t change).0 changes one.0 known.1 in
    omega (arith, split, less, rest)
