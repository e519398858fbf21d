-- A frame is free for a machine that has not all its overhead frames, where no machine has a page and no more is promised than there is.
use Rattle.std.proofs.Common.{zero, suc, ◌≡◌, ℕ, ◌<◌, ◌≤◌, false, true, not, List, [], ◌∷◌, length, get_or, replicate, count_by, sum_by, refl, ap, ◌∙◌, arith, ◌==◌, Option, Some, None, inl, inr}
use Rattle.std.specs.List.{list_any, range_with_len}
use Rattle.std.proofs.lemmas.List.Sums.{sum_by-cons}
use Rattle.esx_types.specs.declared.config.Config.{Config}
use Rattle.esx_model.specs.declared.scene.Place.TheVariants.{Untouched}
use Rattle.esx_model.specs.declared.scene.Vm.{Vm}
use Rattle.esx_model.specs.declared.scene.Site.{Site}
use Rattle.esx_model.specs.Places.{is_here_at}
use Rattle.esx_model.specs.Site.{vm_at, vm_names, vm_overhead, is_named, least_free, memory_reserve, memory_reserved}
use Rattle.esx_model.proofs.Callers.{either, not_not}
use Rattle.esx_model.proofs.Counted.{covered, listed_once, counted_any, range_least, none_found}

-- it has no more overhead frames than it asked for, and no page anywhere
pub record IsBare (v : Vm) : Type 0 where
  pub overhead : length v.overhead ≤ v.spec.overhead
  pub places : v.places ≡ replicate v.spec.max Untouched

abbrev pub AreBare : List (Option Vm) → Type 0
AreBare vms = (n : ℕ) (v : Vm) → get_or vms n None ≡ Some v → IsBare v

-- how often a machine takes frame f for itself, and how many frames it takes so
namings : ℕ → Option Vm → ℕ
namings f o = count_by (λ g. g == f) (vm_overhead o)

taken : Option Vm → ℕ
taken o = length (vm_overhead o)

none_here : (f n : ℕ) → list_any (is_here_at f) (replicate n Untouched) ≡ false
none_here f zero = refl
none_here f (suc n) = none_here f n

named_by : (f : ℕ) (v : Vm) → IsBare v → vm_names f (Some v) ≡ true → 1 ≤ namings f (Some v)
unfolding namings
named_by f v bare h = elim (either (list_any (λ g. g == f) v.overhead) (list_any (is_here_at f) v.places) h) [
  | inl w ↦ counted_any (λ g. g == f) v.overhead w
  | inr w ↦ (let no : list_any (is_here_at f) v.places ≡ false = ap (list_any (is_here_at f)) bare.places ∙ none_here f v.spec.max in cc)
]

named_one : (f : ℕ) (o : Option Vm) → ((v : Vm) → o ≡ Some v → IsBare v) → vm_names f o ≡ true → 1 ≤ namings f o
named_one f None bare h = cc
named_one f (Some v) bare h = named_by f v (bare v refl) h

-- a frame that is taken is taken once at least
named_some : (f : ℕ) (vms : List (Option Vm)) → AreBare vms → list_any (vm_names f) vms ≡ true → 1 ≤ sum_by (namings f) vms
named_some f [] bare h = cc
named_some f (o ∷ os) bare h =
    let sum = sum_by-cons (namings f) o os in
    elim (either (vm_names f o) (list_any (vm_names f) os) h) [
      | inl w ↦ (let here = named_one f o (bare zero) w in omega (arith, sum, here))
      | inr w ↦ (let later = named_some f os (λ n v e. bare (suc n) v e) w in omega (arith, sum, later))
    ]

taken_one : (o : Option Vm) → ((v : Vm) → o ≡ Some v → IsBare v) → taken o ≤ memory_reserve o
unfolding taken
taken_one None bare = omega arith
taken_one (Some v) bare = (let most = (bare v refl).overhead in omega (arith, most))

taken_most : (vms : List (Option Vm)) → AreBare vms → sum_by taken vms ≤ sum_by memory_reserve vms
taken_most [] bare = omega arith
taken_most (o ∷ os) bare =
    let a = sum_by-cons taken o os in
    let b = sum_by-cons memory_reserve o os in
    let here = taken_one o (bare zero) in
    let later = taken_most os (λ n v e. bare (suc n) v e) in
    omega (arith, a, b, here, later)

less_one : (v : Vm) → length v.overhead < v.spec.overhead → taken (Some v) < memory_reserve (Some v)
unfolding taken
less_one v less = omega (arith, less)

taken_less : (vms : List (Option Vm)) (n : ℕ) (v : Vm) → AreBare vms → get_or vms n None ≡ Some v → length v.overhead < v.spec.overhead → sum_by taken vms < sum_by memory_reserve vms
taken_less [] n v bare there less = cc
taken_less (o ∷ os) zero v bare there less =
    let a = sum_by-cons taken o os in
    let b = sum_by-cons memory_reserve o os in
    let here = less_one v less in
    let t = ap taken there in
    let m = ap memory_reserve there in
    let later = taken_most os (λ n v e. bare (suc n) v e) in
    omega (arith, a, b, here, t, m, later)
taken_less (o ∷ os) (suc n) v bare there less =
    let a = sum_by-cons taken o os in
    let b = sum_by-cons memory_reserve o os in
    let here = taken_one o (bare zero) in
    let later = taken_less os n v (λ n v e. bare (suc n) v e) there less in
    omega (arith, a, b, here, later)

some_frame : (c : Config) (s : Site) (n : ℕ) (v : Vm) → AreBare s.vms → memory_reserved s ≤ c.frames → vm_at s n ≡ Some v → length v.overhead < v.spec.overhead
    → (o : Option ℕ) → least_free c.frames s ≡ o → (f : ℕ) × (o ≡ Some f)
unfolding least_free namings taken
some_frame c s n v bare within there less (Some f) found = (f, refl)
some_frame c s n v bare within there less None found =
    let named : (f : ℕ) → f < c.frames → 1 ≤ sum_by (namings f) s.vms =
    λ f below. named_some f s.vms bare (not_not (is_named s f) (none_found (λ g. not (is_named s g)) 0 c.frames f found (omega (arith, below)) (omega arith))) in
    let least = range_least (λ f. sum_by (namings f) s.vms) 0 c.frames (λ f below from. named f (omega (arith, below))) in
    let total = covered namings taken (range_with_len 0 c.frames) s.vms (λ o. listed_once c.frames (vm_overhead o)) in
    let fewer = taken_less s.vms n v bare there less in
    absurd (omega (arith, least, total, fewer, within))

pub frame_is_free : (c : Config) (s : Site) (n : ℕ) (v : Vm) → AreBare s.vms → memory_reserved s ≤ c.frames → vm_at s n ≡ Some v → length v.overhead < v.spec.overhead
    → (f : ℕ) × (least_free c.frames s ≡ Some f)
frame_is_free c s n v bare within there less = some_frame c s n v bare within there less (least_free c.frames s) refl
