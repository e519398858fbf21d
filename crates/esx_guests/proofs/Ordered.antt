-- Machines of a scenario in the order of their numbers.
use Rattle.std.proofs.Common.{◌≡◌, ◌≢◌, ℕ, zero, suc, ◌<◌, Bool, true, false, ◌||◌, ◌==◌, List, [], ◌∷◌, ◌++◌, refl, sym, ap, ◌∙◌, subst, arith, cond, Some, inl, inr}
use Rattle.std.specs.Prelude.{slice_get}
use Rattle.std.specs.List.{AllByRecursion}
use Rattle.std.proofs.lemmas.Bool.{false≢true}
use Rattle.std.proofs.lemmas.Bool.Decides.{nat_tests}
use Rattle.esx_scenario.specs.declared.plan.Guest as scenario
use Rattle.esx_scenario.specs.Plans.{has_number, AreDistinct}
use Rattle.esx_opening.specs.Orders.{of_number, below}
use Rattle.std.proofs.lemmas.List.Folds.{list_any-append}
use Rattle.esx_model.proofs.Callers.{eqb_same, either, all_append}

pub has_placed : (gs : List scenario.Guest) (k : ℕ) (g : scenario.Guest) → slice_get gs k ≡ Some g → has_number gs g.vm ≡ true
has_placed [] k g h = cc
has_placed (x ∷ gs) zero g h =
    let same : x ≡ g = cc in
    ap (λ (y : scenario.Guest). (y.vm == g.vm) || has_number gs g.vm) same ∙ ap (λ b. b || has_number gs g.vm) (eqb_same g.vm)
has_placed (x ∷ gs) (suc k) g h = ap (λ b. (x.vm == g.vm) || b) (has_placed gs k g h) ∙ or_true (x.vm == g.vm)
  where
    or_true : (b : Bool) → (b || true) ≡ true
    or_true true = refl
    or_true false = refl

of_number_is : (gs : List scenario.Guest) (n m : ℕ) → has_number (of_number gs n) m ≡ true → m ≡ n
of_number_is [] n m h = cc
of_number_is (x ∷ xs) n m h = of (x.vm == n) refl h (λ k. of_number_is xs n m k)
  where
    first : (b : Bool) → (x.vm == m) ≡ b → (x.vm == n) ≡ true → (b || has_number (of_number xs n) m) ≡ true → (has_number (of_number xs n) m ≡ true → m ≡ n) → m ≡ n
    first true d e k rest = grind (arith, nat_tests)
    first false d e k rest = rest k

    of : (b : Bool) → (x.vm == n) ≡ b → has_number (cond b (x ∷ of_number xs n) (of_number xs n)) m ≡ true → (has_number (of_number xs n) m ≡ true → m ≡ n) → m ≡ n
    of true e k rest = first (x.vm == m) refl e k rest
    of false e k rest = rest k

all_below : (gs : List scenario.Guest) (n m : ℕ) → has_number (below n gs) m ≡ true → m < n
unfolding below
all_below gs zero m h = cc
all_below gs (suc n) m h = elim (either (has_number (below n gs) m) (has_number (of_number gs n) m) (sym (list_any-append (λ (g : scenario.Guest). g.vm == m) (below n gs) (of_number gs n)) ∙ h)) [
  | inl w ↦ (let low = all_below gs n m w in omega arith)
  | inr w ↦ (let same = of_number_is gs n m w in omega (arith, same))
]

filter_has_one : (x : scenario.Guest) (xs : List scenario.Guest) (n m : ℕ) (b : Bool) → has_number (cond b (x ∷ of_number xs n) (of_number xs n)) m ≡ true → (has_number (of_number xs n) m ≡ true → has_number xs m ≡ true) → has_number (x ∷ xs) m ≡ true
filter_has_one x xs n m true h rest = of (x.vm == m) h
  where
    of : (b : Bool) → (b || has_number (of_number xs n) m) ≡ true → (b || has_number xs m) ≡ true
    of true k = refl
    of false k = rest k
filter_has_one x xs n m false h rest = of (x.vm == m) (rest h)
  where
    of : (b : Bool) → has_number xs m ≡ true → (b || has_number xs m) ≡ true
    of true k = refl
    of false k = k

filter_has : (xs : List scenario.Guest) (n m : ℕ) → has_number (of_number xs n) m ≡ true → has_number xs m ≡ true
filter_has [] n m h = cc
filter_has (x ∷ xs) n m h = filter_has_one x xs n m (x.vm == n) h (λ k. filter_has xs n m k)

not_has : (b : Bool) → (b ≡ true → ⊥) → b ≡ false
not_has true h = absurd (h refl)
not_has false h = refl

number_distinct : (gs : List scenario.Guest) (n : ℕ) → AreDistinct gs → AreDistinct (of_number gs n)
number_distinct [] n d = tt
number_distinct (x ∷ xs) n d = of (x.vm == n) (number_distinct xs n d.1)
  where
    of : (b : Bool) → AreDistinct (of_number xs n) → AreDistinct (cond b (x ∷ of_number xs n) (of_number xs n))
    of true rest = (not_has (has_number (of_number xs n) x.vm) (λ h. false≢true (sym d.0 ∙ filter_has xs n x.vm h)), rest)
    of false rest = rest

distinct_append : (xs ys : List scenario.Guest) → AreDistinct xs → AreDistinct ys → ((m : ℕ) → has_number xs m ≡ true → has_number ys m ≡ true → ⊥) → AreDistinct (xs ++ ys)
distinct_append [] ys dx dy apart = dy
distinct_append (x ∷ xs) ys dx dy apart = (
  list_any-append (λ (g : scenario.Guest). g.vm == x.vm) xs ys ∙ ap (λ b. b || has_number ys x.vm) dx.0 ∙ not_has (has_number ys x.vm) (λ h. apart x.vm (ap (λ b. b || has_number xs x.vm) (eqb_same x.vm)) h),
  distinct_append xs ys dx.1 dy (λ m h k. apart m (ap (λ b. (x.vm == m) || b) h ∙ or_true (x.vm == m)) k),
)
  where
    or_true : (b : Bool) → (b || true) ≡ true
    or_true true = refl
    or_true false = refl

pub below_distinct : (gs : List scenario.Guest) (n : ℕ) → AreDistinct gs → AreDistinct (below n gs)
unfolding below
below_distinct gs zero d = tt
below_distinct gs (suc n) d = distinct_append (below n gs) (of_number gs n) (below_distinct gs n d) (number_distinct gs n d) (λ m h k. (let low = all_below gs n m h in let same = of_number_is gs n m k in omega (arith, low, same)))

-- What is kept of the machines of a scenario in order.

all_filter : (P : scenario.Guest → Type 0) (gs : List scenario.Guest) (n : ℕ) → AllByRecursion P gs → AllByRecursion P (of_number gs n)
all_filter P [] n h = tt
all_filter P (x ∷ xs) n h = of (x.vm == n) (all_filter P xs n h.1)
  where
    of : (b : Bool) → AllByRecursion P (of_number xs n) → AllByRecursion P (cond b (x ∷ of_number xs n) (of_number xs n))
    of true rest = (h.0, rest)
    of false rest = rest

pub all_in_order : (P : scenario.Guest → Type 0) (gs : List scenario.Guest) (n : ℕ) → AllByRecursion P gs → AllByRecursion P (below n gs)
unfolding below
all_in_order P gs zero h = tt
all_in_order P gs (suc n) h = all_append P (below n gs) (of_number gs n) (all_in_order P gs n h) (all_filter P gs n h)

pub one_of : (P : scenario.Guest → Type 0) (gs : List scenario.Guest) (k : ℕ) (g : scenario.Guest) → AllByRecursion P gs → slice_get gs k ≡ Some g → P g
one_of P [] k g h at = cc
one_of P (x ∷ xs) zero g h at = (let same : x ≡ g = cc in subst P same h.0)
one_of P (x ∷ xs) (suc k) g h at = one_of P xs k g h.1 at

pub number_below : (gs : List scenario.Guest) (n k : ℕ) (g : scenario.Guest) → slice_get (below n gs) k ≡ Some g → g.vm < n
number_below gs n k g at = all_below gs n g.vm (has_placed (below n gs) k g at)

-- two places of distinct machines have two numbers
pub apart_at : (gs : List scenario.Guest) (j k : ℕ) (x g : scenario.Guest) → AreDistinct gs → slice_get gs j ≡ Some x → slice_get gs k ≡ Some g → j ≢ k → x.vm ≢ g.vm
apart_at [] j k x g d a b other same = cc
apart_at (y ∷ gs) zero zero x g d a b other same = other refl
apart_at (y ∷ gs) zero (suc k) x g d a b other same =
    let is : y ≡ x = cc in
    let here : y.vm ≡ g.vm = ap (λ (z : scenario.Guest). z.vm) is ∙ same in
    false≢true (sym d.0 ∙ ap (has_number gs) here ∙ has_placed gs k g b)
apart_at (y ∷ gs) (suc j) zero x g d a b other same =
    let is : y ≡ g = cc in
    let here : y.vm ≡ x.vm = ap (λ (z : scenario.Guest). z.vm) is ∙ sym same in
    false≢true (sym d.0 ∙ ap (has_number gs) here ∙ has_placed gs j x a)
apart_at (y ∷ gs) (suc j) (suc k) x g d a b other same = apart_at gs j k x g d.1 a b (λ e. other (ap suc e)) same
