-- What stands in a list of steps, and in which order.
use Rattle.std.proofs.Common.{zero, suc, ◌≡◌, ◌⊎◌, ℕ, ◌+◌, ◌<◌, ◌≤◌, Bool, true, false, cond, List, [], ◌∷◌, ◌++◌, length, get_or, refl, subst, arith, Option, Some, None, inl, inr}
use Rattle.std.specs.List.{AllPairs, Contains, flat_map, range_with_len}
use Rattle.std.proofs.lemmas.Bool.{cases_eq}
use Rattle.std.proofs.lemmas.List.Elements.{Contains-append_left, Contains-append_right, Contains-append_cases, Contains-get_or}
use Rattle.esx_figures.specs.declared.steps.Step.{Step}
use Rattle.esx_figures.specs.Steps.{told}

pub nothing : (y : Step) → Contains [] y → ⊥
nothing y h = (let below = h.1 in omega (arith, below))

pub first_is : (x : Step) (xs : List Step) → Contains (x ∷ xs) x
first_is x xs = (0, omega arith, refl)

pub first_or_later : (x : Step) (xs : List Step) (y : Step) → Contains (x ∷ xs) y → (x ≡ y) ⊎ Contains xs y
first_or_later x xs y h = by h.0 h.1 h.2
  where
    by : (k : ℕ) → k < length (x ∷ xs) → get_or (x ∷ xs) k y ≡ y → (x ≡ y) ⊎ Contains xs y
    by zero below is = inl is
    by (suc k) below is = inr (k, omega (arith, below), is)

pub later_is : (x : Step) (xs : List Step) (y : Step) → Contains xs y → Contains (x ∷ xs) y
later_is x xs y h = Contains-append_right (x ∷ []) xs y h

pub told_is : (same : Bool) (x y : Step) → Contains (told (cond same None (Some x))) y → (same ≡ false) × (x ≡ y)
told_is true x y h = absurd (nothing y h)
told_is false x y h = elim (first_or_later x [] y h) [
  | inl e ↦ (refl, e)
  | inr e ↦ absurd (nothing y e)
]

pub is_told : (same : Bool) (x : Step) → same ≡ false → Contains (told (cond same None (Some x))) x
is_told true x e = cc
is_told false x e = first_is x []

pub empty : (xs : List Step) → ((y : Step) → Contains xs y → ⊥) → xs ≡ []
empty [] h = refl
empty (x ∷ xs) h = absurd (h x (first_is x xs))

-- Lists of numbers one behind another.

abbrev pub lists : (ℕ → List Step) → ℕ → ℕ → List Step
lists f a k = flat_map f (range_with_len a k)

pub of_number : (f : ℕ → List Step) (a k : ℕ) (y : Step) → Contains (lists f a k) y → (n : ℕ) × (a ≤ n) × (n < a + k) × Contains (f n) y
of_number f a zero y h = absurd (nothing y h)
of_number f a (suc k) y h = elim (Contains-append_cases (f a) (lists f (a + 1) k) y h) [
  | inl e ↦ (a, omega arith, omega arith, e)
  | inr e ↦ (let rest = of_number f (a + 1) k y e in
      let low = rest.1 in
      let high = rest.2 in
      (rest.0, omega (arith, low), omega (arith, high), rest.3))
]

pub by_number : (f : ℕ → List Step) (a k n : ℕ) (y : Step) → a ≤ n → n < a + k → Contains (f n) y → Contains (lists f a k) y
by_number f a zero n y low high h = absurd (omega (arith, low, high))
by_number f a (suc k) n y low high h = elim (cases_eq n a) [
  | inl e ↦ Contains-append_left (f a) (lists f (a + 1) k) y (subst (λ m. Contains (f m) y) e h)
  | inr other ↦ Contains-append_right (f a) (lists f (a + 1) k) y (by_number f (a + 1) k n y (above other) (omega (arith, high)) h)
]
  where
    above : (n ≡ a → ⊥) → a + 1 ≤ n
    above other = omega (arith, low, other)

-- Order.

pub pairs_more : (R : Step → Step → Type 0) (x : Step) (xs : List Step) → AllPairs R xs → ((y : Step) → Contains xs y → R x y) → AllPairs R (x ∷ xs)
pairs_more R x xs rest first i zero d less below = absurd (omega (arith, less))
pairs_more R x xs rest first zero (suc j) d less below = first (get_or xs j d) (Contains-get_or xs j d (omega (arith, below)))
pairs_more R x xs rest first (suc i) (suc j) d less below = rest i j d (omega (arith, less)) (omega (arith, below))

pairs_later : (R : Step → Step → Type 0) (x : Step) (xs : List Step) → AllPairs R (x ∷ xs) → AllPairs R xs
pairs_later R x xs all i j d less below = all (suc i) (suc j) d (omega (arith, less)) (omega (arith, below))

pairs_first : (R : Step → Step → Type 0) (x : Step) (xs : List Step) → AllPairs R (x ∷ xs) → (y : Step) → Contains xs y → R x y
pairs_first R x xs all y h =
    let below = h.1 in
    subst (R x) h.2 (all zero (suc h.0) y (omega arith) (omega (arith, below)))

pub pairs_append : (R : Step → Step → Type 0) (xs ys : List Step) → AllPairs R xs → AllPairs R ys → ((x y : Step) → Contains xs x → Contains ys y → R x y) → AllPairs R (xs ++ ys)
pairs_append R [] ys front back between = back
pairs_append R (x ∷ xs) ys front back between =
    pairs_more R x (xs ++ ys) (pairs_append R xs ys (pairs_later R x xs front) back (λ u y h k. between u y (later_is x xs u h) k)) first
  where
    first : (y : Step) → Contains (xs ++ ys) y → R x y
    first y h = elim (Contains-append_cases xs ys y h) [
      | inl e ↦ pairs_first R x xs front y e
      | inr e ↦ between x y (first_is x xs) e
    ]

pub pairs_told : (R : Step → Step → Type 0) (o : Option Step) → AllPairs R (told o)
pairs_told R None i j d less below = absurd (omega (arith, below))
pairs_told R (Some x) i j d less below = absurd (omega (arith, less, below))

pub pairs_lists : (R : Step → Step → Type 0) (f : ℕ → List Step) (a k : ℕ) → ((n : ℕ) → AllPairs R (f n)) → ((m n : ℕ) (x y : Step) → m < n → Contains (f m) x → Contains (f n) y → R x y) → AllPairs R (lists f a k)
pairs_lists R f a zero each between = λ i j d less below. absurd (omega (arith, below))
pairs_lists R f a (suc k) each between =
    pairs_append R (f a) (lists f (a + 1) k) (each a) (pairs_lists R f (a + 1) k each between) first
  where
    first : (x y : Step) → Contains (f a) x → Contains (lists f (a + 1) k) y → R x y
    first x y h e =
        let later = of_number f (a + 1) k y e in
        let low = later.1 in
        between a later.0 x y (omega (arith, low)) h later.3
