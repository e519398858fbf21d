-- Counts over a list that changes at one place, and over one item many times.
use Rattle.std.proofs.Common.{◌≡◌, ◌≢◌, [], ℕ, zero, suc, ◌+◌, ◌-◌, ◌<◌, ◌≤◌, Bool, true, false, not, cond, List, ◌∷◌, length, get_or, set, map, replicate, count_by, sum, refl, sym, ap, arith, mul-zero, ◌∙◌}
use Rattle.std.specs.Bool.{beq}
use Rattle.std.proofs.Math.Seq.{map-set_same}
use Rattle.std.specs.List.{sum_by}
use Rattle.std.proofs.lemmas.List.Sums.{sum_by-cons, sum_by-set, get_or-le-sum_by, sum-map, count_by-le-length}
use Rattle.std.proofs.lemmas.List.{length-set}
use Rattle.esx_lists.specs.Counts.{one}
use Rattle.std.proofs.lemmas.List.Folds.{sum_by-replicate}

-- a count after one item was written
pub count_by-set : {X : Type 0} (p : X → Bool) (xs : List X) (i : ℕ) (x d : X) → i < length xs → count_by p (set xs i x) ≡ count_by p xs - one (p (get_or xs i d)) + one (p x)
count_by-set p xs i x d h =
    let e = sum_by-set (λ y. cond (p y) 1 0) xs i x d h in
    let l = get_or-le-sum_by (λ y. cond (p y) 1 0) xs i d h in
    omega (arith, e, l)

-- such a count is at most the length
pub count_by-set-fits : {X : Type 0} (p : X → Bool) (xs : List X) (i : ℕ) (x d : X) (n : ℕ) → i < length xs → length xs < n → count_by p xs - one (p (get_or xs i d)) + one (p x) < n
count_by-set-fits p xs i x d n h small =
    let e = count_by-set p xs i x d h in
    let l = count_by-le-length p (set xs i x) in
    omega (arith, e, l, length-set xs i x)

-- the count stays where an item is written that passes as the one before it did
pub count_by-set_same : {X : Type 0} (p : X → Bool) (xs : List X) (i : ℕ) (x d : X) → p x ≡ p (get_or xs i d) → count_by p (set xs i x) ≡ count_by p xs
count_by-set_same {X = X} p xs i x d same =
    let f = λ (y : X). cond (p y) 1 0 in
    let e : map f (set xs i x) ≡ map f xs = map-set_same f xs i x d (rw same refl) in
    sym (sum-map f (set xs i x)) ∙ ap sum e ∙ sum-map f xs

-- an item that passes is counted
pub counted_there : {X : Type 0} (p : X → Bool) (xs : List X) (i : ℕ) (d : X) → i < length xs → one (p (get_or xs i d)) ≤ count_by p xs
counted_there p xs i d h = get_or-le-sum_by (λ y. cond (p y) 1 0) xs i d h

pub count_by-replicate : {X : Type 0} (p : X → Bool) (n : ℕ) (x : X) → p x ≡ false → count_by p (replicate n x) ≡ 0
count_by-replicate p n x fails = sum_by-replicate (λ y. cond (p y) 1 0) n x ∙ rw fails (mul-zero n)

pub map-replicate : {X Y : Type 0} (f : X → Y) (n : ℕ) (x : X) → map f (replicate n x) ≡ replicate n (f x)
map-replicate f zero x = refl
map-replicate f (suc n) x = ap (λ xs. f x ∷ xs) (map-replicate f n x)

-- two tests that do not differ
pub same_tests : (x y : Bool) → not (beq x y) ≡ false → x ≡ y
same_tests true true e = refl
same_tests false false e = refl
same_tests true false e = cc
same_tests false true e = cc

-- a sum of nothing, and a sum of which one item alone makes anything
pub sum_of_none : {X : Type 0} (f : X → ℕ) (xs : List X) (d : X) → ((k : ℕ) → k < length xs → f (get_or xs k d) ≡ 0) → sum_by f xs ≡ 0
sum_of_none f [] d none = refl
sum_of_none f (x ∷ xs) d none =
    let head : f x ≡ 0 = none zero (omega arith) in
    let rest : sum_by f xs ≡ 0 = sum_of_none f xs d (λ k h. none (suc k) (omega arith)) in
    rw (sum_by-cons f x xs) (omega arith)

pub sum_of_one : {X : Type 0} (f : X → ℕ) (xs : List X) (i : ℕ) (d : X) → i < length xs → ((k : ℕ) → k < length xs → k ≢ i → f (get_or xs k d) ≡ 0) → sum_by f xs ≡ f (get_or xs i d)
sum_of_one f [] i d h others = absurd (omega arith)
sum_of_one f (x ∷ xs) zero d h others =
    let rest : sum_by f xs ≡ 0 = sum_of_none f xs d (λ k l. others (suc k) (omega arith) (λ e. omega arith)) in
    rw (sum_by-cons f x xs) (omega arith)
sum_of_one f (x ∷ xs) (suc i) d h others =
    let head : f x ≡ 0 = others zero (omega arith) (λ e. omega arith) in
    let rest : sum_by f xs ≡ f (get_or xs i d) = sum_of_one f xs i d (omega arith) (λ k l ne. others (suc k) (omega arith) (λ e. ne (omega arith))) in
    rw (sum_by-cons f x xs) (omega arith)
