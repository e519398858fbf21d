-- Lists that grow by one, or change at one place.
use Rattle.std.proofs.Common.{zero, suc, ◌≡◌, ℕ, ◌+◌, ◌<◌, ◌≤◌, ◌==◌, Bool, cond, List, [], ◌∷◌, ◌++◌, length, get_or, set, map, count_by, sum_by, replicate, refl, sym, ap, ◌∙◌, subst, arith, inl, inr}
use Rattle.std.specs.List.{range_with_len}
use Rattle.std.proofs.lemmas.Bool.{cases_eq}
use Rattle.std.proofs.lemmas.List.{get_or-set_same, get_or-set_other}
use Rattle.std.proofs.lemmas.List.Sums.{sum_by_push, sum_by-cons}
use Rattle.esx_model.proofs.Callers.{eqb_same, eqb_other}

-- One more.

pub count_push : {X : Type 0} (p : X → Bool) (xs : List X) (y : X) → count_by p (xs ++ y ∷ []) ≡ count_by p xs + cond (p y) 1 0
count_push p xs y = sum_by_push (λ x. cond (p x) 1 0) xs y

pub sum_map : {X Y : Type 0} (f : Y → ℕ) (g : X → Y) (h : X → ℕ) (xs : List X) → ((x : X) → f (g x) ≡ h x) → sum_by f (map g xs) ≡ sum_by h xs
sum_map f g h [] same = refl
sum_map f g h (x ∷ xs) same =
    sum_by-cons f (g x) (map g xs) ∙ ap (λ k. k + sum_by f (map g xs)) (same x) ∙ ap (λ k. h x + k) (sum_map f g h xs same) ∙ sym (sum_by-cons h x xs)

-- the same at each number of a range
pub same_range : {X : Type 0} (f g : ℕ → X) (a k : ℕ) → ((i : ℕ) → a ≤ i → i < a + k → f i ≡ g i) → map f (range_with_len a k) ≡ map g (range_with_len a k)
same_range f g a zero same = refl
same_range f g a (suc k) same =
    ap (λ x. x ∷ map f (range_with_len (a + 1) k)) (same a (omega arith) (omega arith))
    ∙ ap (λ xs. g a ∷ xs) (same_range f g (a + 1) k (λ i low high. same i (omega (arith, low)) (omega (arith, high))))

pub get_none : {X : Type 0} (k n : ℕ) (d : X) → get_or (replicate k d) n d ≡ d
get_none zero n d = refl
get_none (suc k) zero d = refl
get_none (suc k) (suc n) d = get_none k n d

pub replicate_next : {X : Type 0} (n : ℕ) (x : X) → replicate n x ++ x ∷ [] ≡ replicate (suc n) x
replicate_next zero x = refl
replicate_next (suc n) x = ap (λ xs. x ∷ xs) (replicate_next n x)

pub replicate_more : {X : Type 0} (n : ℕ) (x : X) → replicate n x ++ x ∷ [] ≡ replicate (n + 1) x
replicate_more n x = replicate_next n x ∙ ap (λ k. replicate k x) (let e : suc n ≡ n + 1 = omega arith in e)

-- One place changed: what is read at any place.

pub set_read : {X : Type 0} (xs : List X) (m n : ℕ) (y d : X) → n < length xs → get_or (set xs m y) n d ≡ cond (m == n) y (get_or xs n d)
set_read {X} xs m n y d below = elim (cases_eq n m) [
  | inl e ↦ (let P : ℕ → Type 0 = λ k. get_or (set xs k y) n d ≡ cond (k == n) y (get_or xs n d) in
      subst P e (get_or-set_same xs n y d below ∙ ap (λ b. cond b y (get_or xs n d)) (sym (eqb_same n))))
  | inr other ↦ get_or-set_other xs m n y d other ∙ ap (λ b. cond b y (get_or xs n d)) (sym (eqb_other m n other))
]
