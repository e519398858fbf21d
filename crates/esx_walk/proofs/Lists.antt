-- Lists that change at one place, read place by place.
use Rattle.std.proofs.Common.{zero, suc, ◌≡◌, ◌≢◌, ℕ, ◌+◌, ◌<◌, ◌≤◌, List, [], ◌∷◌, ◌++◌, length, get_or, set, slice_get, take, drop, replicate, refl, sym, ap, ◌∙◌, arith, Some, None}
use Rattle.std.proofs.lemmas.List.{take_all, drop_all, append-nil}
use Rattle.esx_walk.specs.Account.{map_from}

pub get_set_same : {X : Type 0} (xs : List X) (j : ℕ) (x y : X) → slice_get xs j ≡ Some x → slice_get (set xs j y) j ≡ Some y
get_set_same [] j x y h = cc
get_set_same (z ∷ xs) zero x y h = refl
get_set_same (z ∷ xs) (suc j) x y h = get_set_same xs j x y h

pub get_set_other : {X : Type 0} (xs : List X) (j k : ℕ) (y : X) → k ≢ j → slice_get (set xs j y) k ≡ slice_get xs k
get_set_other [] j k y other = refl
get_set_other (z ∷ xs) zero zero y other = absurd (other refl)
get_set_other (z ∷ xs) zero (suc k) y other = refl
get_set_other (z ∷ xs) (suc j) zero y other = refl
get_set_other (z ∷ xs) (suc j) (suc k) y other = get_set_other xs j k y (λ e. other (ap suc e))

no_item : {X : Type 0} (x : X) → None ≡ Some x → ⊥
no_item x h = cc

one_item : {X : Type 0} (x y : X) → Some x ≡ Some y → x ≡ y
one_item x y h = cc

-- equal at each place
pub same_lists : {X : Type 0} (xs ys : List X) → ((k : ℕ) → slice_get xs k ≡ slice_get ys k) → xs ≡ ys
same_lists [] [] each = refl
same_lists [] (y ∷ ys) each = absurd (no_item y (each 0))
same_lists (x ∷ xs) [] each = absurd (no_item x (sym (each 0)))
same_lists (x ∷ xs) (y ∷ ys) each = ap (λ z. z ∷ xs) (one_item x y (each 0)) ∙ ap (λ zs. y ∷ zs) (same_lists xs ys (λ k. each (suc k)))

-- a list with one more
pub get_front : {X : Type 0} (xs : List X) (y : X) (k : ℕ) → k < length xs → slice_get (xs ++ y ∷ []) k ≡ slice_get xs k
get_front [] y k below = absurd (omega (arith, below))
get_front (x ∷ xs) y zero below = refl
get_front (x ∷ xs) y (suc k) below = get_front xs y k (omega (arith, below))

pub get_last : {X : Type 0} (xs : List X) (y : X) → slice_get (xs ++ y ∷ []) (length xs) ≡ Some y
get_last [] y = refl
get_last (x ∷ xs) y = get_last xs y

pub get_past : {X : Type 0} (xs : List X) (y z : X) (k : ℕ) → slice_get (xs ++ y ∷ []) k ≡ Some z → length xs ≤ k → (k ≡ length xs) × (y ≡ z)
get_past [] y z zero h past = (refl, one_item y z h)
get_past [] y z (suc k) h past = absurd (no_item z h)
get_past (x ∷ xs) y z zero h past = absurd (omega (arith, past))
get_past (x ∷ xs) y z (suc k) h past = (let rest = get_past xs y z k h (omega (arith, past)) in (ap suc rest.0, rest.1))

-- Each changed as its place tells.

pub map_from_long : {X : Type 0} (f : ℕ → X → X) (k : ℕ) (xs : List X) → length (map_from f k xs) ≡ length xs
map_from_long f k [] = refl
map_from_long f k (x ∷ xs) = ap suc (map_from_long f (k + 1) xs)

map_from_get : {X : Type 0} (f : ℕ → X → X) (d : X) (k : ℕ) (xs : List X) (n : ℕ) → n < length xs → get_or (map_from f k xs) n d ≡ f (k + n) (get_or xs n d)
map_from_get f d k [] n below = absurd (omega (arith, below))
map_from_get f d k (x ∷ xs) zero below = ap (λ j. f j x) (let e : k ≡ k + 0 = omega arith in e)
map_from_get f d k (x ∷ xs) (suc n) below = map_from_get f d (k + 1) xs n (omega (arith, below)) ∙ ap (λ j. f j (get_or xs n d)) (let e : k + 1 + n ≡ k + suc n = omega arith in e)

pub map_from_read : {X : Type 0} (f : ℕ → X → X) (d : X) (xs : List X) (n : ℕ) → n < length xs → get_or (map_from f 0 xs) n d ≡ f n (get_or xs n d)
map_from_read f d xs n below = map_from_get f d 0 xs n below ∙ ap (λ j. f j (get_or xs n d)) (let e : 0 + n ≡ n = omega arith in e)

-- and in turn
set_next : {X : Type 0} (f : ℕ → X → X) (d : X) (k : ℕ) (xs : List X) (n : ℕ) → n < length xs
    → set (map_from f k (take n xs) ++ drop n xs) n (f (k + n) (get_or (map_from f k (take n xs) ++ drop n xs) n d)) ≡ map_from f k (take (suc n) xs) ++ drop (suc n) xs
set_next f d k [] n below = absurd (omega (arith, below))
set_next f d k (x ∷ xs) zero below = ap (λ j. f j x ∷ xs) (let e : k + 0 ≡ k = omega arith in e)
set_next f d k (x ∷ xs) (suc n) below =
    ap (λ j. f k x ∷ set (map_from f (k + 1) (take n xs) ++ drop n xs) n (f j (get_or (map_from f (k + 1) (take n xs) ++ drop n xs) n d))) (let e : k + suc n ≡ k + 1 + n = omega arith in e)
    ∙ ap (λ ys. f k x ∷ ys) (set_next f d (k + 1) xs n (omega (arith, below)))

pub set_step : {X : Type 0} (f : ℕ → X → X) (d : X) (xs : List X) (n : ℕ) → n < length xs
    → set (map_from f 0 (take n xs) ++ drop n xs) n (f n (get_or (map_from f 0 (take n xs) ++ drop n xs) n d)) ≡ map_from f 0 (take (n + 1) xs) ++ drop (n + 1) xs
set_step f d xs n below =
    ap (λ j. set (map_from f 0 (take n xs) ++ drop n xs) n (f j (get_or (map_from f 0 (take n xs) ++ drop n xs) n d))) (let e : n ≡ 0 + n = omega arith in e)
    ∙ set_next f d 0 xs n below ∙ ap (λ k. map_from f 0 (take k xs) ++ drop k xs) (let e : suc n ≡ n + 1 = omega arith in e)

pub all_changed : {X : Type 0} (f : ℕ → X → X) (xs : List X) (n : ℕ) → length xs ≤ n → map_from f 0 (take n xs) ++ drop n xs ≡ map_from f 0 xs
all_changed f xs n past =
    ap (λ ys. map_from f 0 ys ++ drop n xs) (take_all n xs past) ∙ ap (λ ys. map_from f 0 xs ++ ys) (drop_all n xs past) ∙ append-nil (map_from f 0 xs)

replicate_next : {X : Type 0} (n : ℕ) (x : X) → replicate n x ++ x ∷ [] ≡ replicate (suc n) x
replicate_next zero x = refl
replicate_next (suc n) x = ap (λ xs. x ∷ xs) (replicate_next n x)

pub replicate_more : {X : Type 0} (n : ℕ) (x : X) → replicate n x ++ x ∷ [] ≡ replicate (n + 1) x
replicate_more n x = replicate_next n x ∙ ap (λ k. replicate k x) (let e : suc n ≡ n + 1 = omega arith in e)
