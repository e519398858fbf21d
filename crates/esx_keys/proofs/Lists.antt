-- Lists and options: what is picked where nothing is given, and counts where all elements pass or none.
use Rattle.std.proofs.Common.{◌≡◌, ℕ, suc, Bool, true, false, cond, List, [], ◌∷◌, length, get_or, Option, Some, None, count_by, refl, ap, ◌∙◌, arith}
use Rattle.std.proofs.lemmas.List.Sums.{sum_by-cons}
use Rattle.std.specs.Option.{option_map}
use Rattle.std.specs.List.{filter_map, cons_option}

-- where no element gives anything, nothing is picked
pub filter_map-none : {X Y : Type 0} (pick : X → Option Y) (xs : List X) (d : X) → ((i : ℕ) → pick (get_or xs i d) ≡ None) → filter_map pick xs ≡ []
filter_map-none pick [] d none = refl
filter_map-none pick (x ∷ xs) d none = ap (λ o. cons_option o (filter_map pick xs)) (none 0) ∙ filter_map-none pick xs d (λ i. none (suc i))

pub count_by-all : {X : Type 0} (p : X → Bool) (xs : List X) (d : X) → ((i : ℕ) → p (get_or xs i d) ≡ true) → count_by p xs ≡ length xs
count_by-all p [] d all = refl
count_by-all p (x ∷ xs) d all = omega (arith, count_by-all p xs d (λ i. all (suc i)), sum_by-cons (λ y. cond (p y) 1 0) x xs, ap {B = ℕ} (λ b. cond b 1 0) (all 0))

pub count_by-none : {X : Type 0} (p : X → Bool) (xs : List X) (d : X) → ((i : ℕ) → p (get_or xs i d) ≡ false) → count_by p xs ≡ 0
count_by-none p [] d none = refl
count_by-none p (x ∷ xs) d none = omega (arith, count_by-none p xs d (λ i. none (suc i)), sum_by-cons (λ y. cond (p y) 1 0) x xs, ap {B = ℕ} (λ b. cond b 1 0) (none 0))

pub count_by-true : {A : Type 0} (xs : List A) → count_by (λ x. true) xs ≡ length xs
count_by-true [] = refl
count_by-true (x ∷ xs) = omega (arith, count_by-true xs, sum_by-cons (λ y. cond true 1 0) x xs)

pub option_map-none : {A B : Type 0} (f : A → B) (o : Option A) → option_map f o ≡ None → o ≡ None
option_map-none f None e = refl
option_map-none f (Some x) e = absurd (cc)

pub option_map-some : {A B : Type 0} (f : A → B) (o : Option A) (y : B) → option_map f o ≡ Some y → (x : A) × (o ≡ Some x) × (f x ≡ y)
option_map-some f None y e = absurd (cc)
option_map-some f (Some x) y e = (x, refl, cc)
