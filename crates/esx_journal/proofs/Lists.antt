-- A list that changes at one place, or grows at its end.
use Rattle.std.proofs.Common.{◌≡◌, ◌≢◌, ℕ, zero, suc, ◌+◌, ◌<◌, List, [], ◌∷◌, ◌++◌, length, slice_index_or, slice_set, refl, ap, arith}
use Rattle.std.proofs.lemmas.Grind.{common_steps}

pub set_there : {A : Type 0} (xs : List A) (c n : ℕ) (x d : A) → c < length xs → n ≡ c → slice_index_or (slice_set xs c x) n d ≡ x
set_there xs c n x d fits e = grind (arith, common_steps)

pub set_elsewhere : {A : Type 0} (xs : List A) (c n : ℕ) (x d : A) → n ≢ c → slice_index_or (slice_set xs c x) n d ≡ slice_index_or xs n d
set_elsewhere xs c n x d e = grind (arith, common_steps)

pub set_length : {A : Type 0} (xs : List A) (c : ℕ) (x : A) → length (slice_set xs c x) ≡ length xs
set_length xs c x = grind (arith, common_steps)

pub pushed_there : {A : Type 0} (xs : List A) (c n : ℕ) (x y d : A) → c < length xs → n ≡ length xs → slice_index_or (slice_set (xs ++ x ∷ []) c y) n d ≡ x
pushed_there xs c n x y d fits e = grind (arith, common_steps)

pub pushed_set : {A : Type 0} (xs : List A) (c n : ℕ) (x y d : A) → c < length xs → n ≡ c → slice_index_or (slice_set (xs ++ x ∷ []) c y) n d ≡ y
pushed_set xs c n x y d fits e = grind (arith, common_steps)

pub pushed_elsewhere : {A : Type 0} (xs : List A) (c n : ℕ) (x y d : A) → n < length xs → n ≢ c → slice_index_or (slice_set (xs ++ x ∷ []) c y) n d ≡ slice_index_or xs n d
pushed_elsewhere xs c n x y d fits e = grind (arith, common_steps)

pub pushed_length : {A : Type 0} (xs : List A) (c : ℕ) (x y : A) → length (slice_set (xs ++ x ∷ []) c y) ≡ length xs + 1
pushed_length xs c x y = grind (arith, common_steps)

pub any_default : {A : Type 0} (xs : List A) (n : ℕ) (c d : A) → n < length xs → slice_index_or xs n c ≡ slice_index_or xs n d
any_default xs n c d fits = grind (arith, common_steps)

pub grown_below : {A : Type 0} (xs : List A) (n : ℕ) (x d : A) → n < length xs → slice_index_or (xs ++ x ∷ []) n d ≡ slice_index_or xs n d
grown_below xs n x d fits = grind (arith, common_steps)

pub grown_length : {A : Type 0} (xs : List A) (x : A) → length (xs ++ x ∷ []) ≡ length xs + 1
grown_length xs x = grind (arith, common_steps)

-- what stands there already is set
pub set_same : {A : Type 0} (xs : List A) (c : ℕ) (d : A) → slice_set xs c (slice_index_or xs c d) ≡ xs
set_same [] c d = refl
set_same (x ∷ xs) zero d = refl
set_same (x ∷ xs) (suc c) d = ap (λ ys. x ∷ ys) (set_same xs c d)
