-- What the reserves give: a slot for each page that has to go out, and a site without a free frame in which each machine has its least.
use Rattle.std.proofs.Common.{zero, suc, ◌≡◌, ℕ, ◌+◌, ◌-◌, ◌<◌, ◌≤◌, Bool, false, true, not, List, [], ◌∷◌, length, get_or, count_by, sum_by, refl, sym, ap, ◌∙◌, arith, cond, Option, Some, None, inl, inr, ◌==◌, ◌%◌}
use Rattle.std.specs.List.{list_any, range_with_len}
use Rattle.std.proofs.lemmas.List.Sums.{sum_by-cons, sum_by-le-sum_by}
use Rattle.std.proofs.lemmas.Bool.Decides.{nat_tests}
use Rattle.std.proofs.lemmas.Option.{slice_get-get_or}
use Rattle.std.proofs.lemmas.Bool.{cases_lt}
use Rattle.esx_types.specs.declared.config.Config.{Config}
use Rattle.esx_model.specs.declared.scene.Place.{Place}
use Rattle.esx_model.specs.declared.scene.Place.TheVariants.{Untouched, Here, Out, Lent}
use Rattle.esx_model.specs.declared.scene.Vm.{Vm}
use Rattle.esx_model.specs.declared.scene.Site.{Site}
use Rattle.esx_model.specs.Places.{is_here, is_here_at, is_out, is_out_at}
use Rattle.esx_model.specs.Site.{vm_at, vm_names, is_named, vm_holds, is_held, vm_places, vm_overhead, pages_of, pages_at, resident, paged_out, least_slot, free_count, memory_reserve, swap_reserve, here_from}
use Rattle.esx_model.specs.Show.{pages_in, is_listed}
use Rattle.esx_model.specs.event.Paging.{is_above_min, victim}
use Rattle.esx_model.specs.Laws.{IsFull}
use Rattle.esx_model.specs.sound.Machines.{IsVm}
use Rattle.esx_model.specs.sound.Sound.{IsSound}
use Rattle.esx_model.proofs.Lists.{one, either, or_false}
use Rattle.esx_model.proofs.Counted.{sum_plus, sum_none, covered, hits_once, listed_once, counted_any, sum_any, range_least, range_more, none_of_range, none_found}
use Rattle.esx_model.proofs.Gates.{not_not}
use Rattle.esx_model.proofs.Rooms.{pages_at_is}
use Rattle.esx_model.proofs.event.Leaving.{held_most}

page_once : (n : ℕ) (p : Place) → sum_by (λ f. one (is_here_at f p)) (range_with_len 0 n) ≤ one (is_here p)
page_once n Untouched = (let none = sum_none (range_with_len 0 n) in omega (arith, none))
page_once n (Here bytes g shared) = hits_once g 0 n
page_once n (Out bytes i) = (let none = sum_none (range_with_len 0 n) in omega (arith, none))
page_once n (Lent e) = (let none = sum_none (range_with_len 0 n) in omega (arith, none))

slot_once : (n : ℕ) (p : Place) → sum_by (λ i. one (is_out_at i p)) (range_with_len 0 n) ≤ one (is_out p)
slot_once n Untouched = (let none = sum_none (range_with_len 0 n) in omega (arith, none))
slot_once n (Here bytes g shared) = (let none = sum_none (range_with_len 0 n) in omega (arith, none))
slot_once n (Out bytes i) = hits_once i 0 n
slot_once n (Lent e) = (let none = sum_none (range_with_len 0 n) in omega (arith, none))

-- How often a frame is taken by a machine, and how many frames it takes.

namings : ℕ → Option Vm → ℕ
namings f o = count_by (λ g. g == f) (vm_overhead o) + count_by (is_here_at f) (vm_places o)

taken : Option Vm → ℕ
taken o = length (vm_overhead o) + count_by is_here (vm_places o)

namings_most : (n : ℕ) (o : Option Vm) → sum_by (λ f. namings f o) (range_with_len 0 n) ≤ taken o
unfolding namings taken
namings_most n o =
    let fs = range_with_len 0 n in
    let plus = sum_plus (λ f. count_by (λ g. g == f) (vm_overhead o)) (λ f. count_by (is_here_at f) (vm_places o)) fs in
    let listed = listed_once n (vm_overhead o) in
    let pages = covered (λ f p. one (is_here_at f p)) (λ p. one (is_here p)) fs (vm_places o) (page_once n) in
    omega (arith, plus, listed, pages)

-- A frame that is taken is taken once at least.

named_some : (f : ℕ) (o : Option Vm) → vm_names f o ≡ true → 1 ≤ namings f o
unfolding namings
named_some f None h = cc
named_some f (Some v) h = elim (either (is_listed f v.overhead) (list_any (is_here_at f) v.places) h) [
  | inl w ↦ (let some = counted_any (λ g. g == f) v.overhead w in omega (arith, some))
  | inr w ↦ (let some = counted_any (is_here_at f) v.places w in omega (arith, some))
]

-- Where no frame is free, and no machine has more than its least.

taken_some : (v : Vm) (c : Config) → IsVm c v → is_above_min (Some v) ≡ false → taken (Some v) ≤ memory_reserve (Some v)
unfolding taken
taken_some v c fine few = (let held = held_most v v.state fine.state in let most : resident v ≤ v.spec.min = grind (arith, nat_tests) in omega (arith, held, most))

none_taken : taken None ≤ memory_reserve None
unfolding taken
none_taken = omega arith

taken_one : (c : Config) (o : Option Vm) → ((v : Vm) → o ≡ Some v → IsVm c v) → is_above_min o ≡ false → taken o ≤ memory_reserve o
taken_one c None each few = none_taken
taken_one c (Some v) each few = taken_some v c (each v refl) few

taken_most : (c : Config) (vms : List (Option Vm)) → ((n : ℕ) (v : Vm) → get_or vms n None ≡ Some v → IsVm c v) → list_any is_above_min vms ≡ false → sum_by taken vms ≤ sum_by memory_reserve vms
taken_most c [] each few = omega arith
taken_most c (o ∷ os) each few =
    let parts = or_false (is_above_min o) (list_any is_above_min os) few in
    let a = sum_by-cons taken o os in
    let b = sum_by-cons memory_reserve o os in
    let rest = taken_most c os (λ n v h. each (suc n) v h) parts.1 in
    let here = taken_one c o (λ v h. each zero v h) parts.0 in
    omega (arith, a, b, rest, here)

less_one : (c : Config) (v : Vm) → IsVm c v → resident v < v.spec.min → taken (Some v) < memory_reserve (Some v)
unfolding taken
less_one c v fine less = (let held = held_most v v.state fine.state in omega (arith, held, less))

-- one with less than its least
taken_less : (c : Config) (vms : List (Option Vm)) (n : ℕ) (v : Vm) → ((n : ℕ) (v : Vm) → get_or vms n None ≡ Some v → IsVm c v) → list_any is_above_min vms ≡ false → get_or vms n None ≡ Some v → resident v < v.spec.min
    → sum_by taken vms < sum_by memory_reserve vms
taken_less c [] n v each few there less = cc
taken_less c (o ∷ os) zero v each few there less =
    let parts = or_false (is_above_min o) (list_any is_above_min os) few in
    let a = sum_by-cons taken o os in
    let b = sum_by-cons memory_reserve o os in
    let rest = taken_most c os (λ n v h. each (suc n) v h) parts.1 in
    let here = less_one c v (each zero v there) less in
    let t = ap taken there in
    let m = ap memory_reserve there in
    omega (arith, a, b, rest, here, t, m)
taken_less c (o ∷ os) (suc n) v each few there less =
    let parts = or_false (is_above_min o) (list_any is_above_min os) few in
    let a = sum_by-cons taken o os in
    let b = sum_by-cons memory_reserve o os in
    let rest = taken_less c os n v (λ n v h. each (suc n) v h) parts.1 there less in
    let here = taken_one c o (λ v h. each zero v h) parts.0 in
    omega (arith, a, b, rest, here)

all_taken : (c : Config) (s : Site) (f : ℕ) → free_count c.frames s ≡ 0 → f < c.frames → 1 ≤ sum_by (namings f) s.vms
unfolding free_count
all_taken c s f none below =
    sum_any (vm_names f) (namings f) s.vms (named_some f) (not_not (is_named s f) (none_of_range (λ g. not (is_named s g)) 0 c.frames f none (omega (arith, below)) (omega arith)))

total_most : (c : Config) (s : Site) → sum_by (λ f. sum_by (namings f) s.vms) (range_with_len 0 c.frames) ≤ sum_by taken s.vms
total_most c s = covered namings taken (range_with_len 0 c.frames) s.vms (namings_most c.frames)

pages_named : (f : ℕ) (vms : List (Option Vm)) → sum_by (pages_of f) vms ≤ sum_by (namings f) vms
unfolding namings
pages_named f vms = sum_by-le-sum_by (pages_of f) (namings f) vms (λ o. of o)
  where
    of : (o : Option Vm) → pages_of f o ≤ namings f o
    of None = omega arith
    of (Some v) = omega arith

not_less : (c : Config) (s : Site) (n : ℕ) (v : Vm) → IsSound c s → free_count c.frames s ≡ 0 → list_any is_above_min s.vms ≡ false → vm_at s n ≡ Some v → resident v < v.spec.min → ⊥
not_less c s n v sound none few there less =
    let total = total_most c s in
    let least = range_least (λ f. sum_by (namings f) s.vms) 0 c.frames (λ f below from. all_taken c s f none (omega (arith, below))) in
    let under = taken_less c s.vms n v sound.each few there less in
    let memory = sound.memory in
    omega (arith, total, least, under, memory)

not_two : (c : Config) (s : Site) (f : ℕ) → IsSound c s → free_count c.frames s ≡ 0 → list_any is_above_min s.vms ≡ false → f < c.frames → 2 ≤ length (pages_in s f) → ⊥
unfolding pages_at
not_two c s f sound none few below two =
    let total = total_most c s in
    let count = pages_at_is f s in
    let named = pages_named f s.vms in
    let more = range_more (λ f. sum_by (namings f) s.vms) 0 c.frames f (λ f below from. all_taken c s f none (omega (arith, below))) (omega (arith, below)) (omega arith) (omega (arith, count, named, two)) in
    let most = taken_most c s.vms sound.each few in
    let memory = sound.memory in
    omega (arith, total, more, most, memory)

at_most_min : (c : Config) (vms : List (Option Vm)) (n : ℕ) (v : Vm) → list_any is_above_min vms ≡ false → get_or vms n None ≡ Some v → resident v ≤ v.spec.min
at_most_min c [] n v few there = cc
at_most_min c (o ∷ os) zero v few there = (let parts = or_false (is_above_min o) (list_any is_above_min os) few in let no : is_above_min (Some v) ≡ false = ap is_above_min (sym there) ∙ parts.0 in grind (arith, nat_tests))
at_most_min c (o ∷ os) (suc n) v few there = at_most_min c os n v (or_false (is_above_min o) (list_any is_above_min os) few).1 there

pub full_site : (c : Config) (s : Site) → IsSound c s → free_count c.frames s ≡ 0 → list_any is_above_min s.vms ≡ false → IsFull c s
full_site c s sound none few = record {
  least = λ n v there. elim (cases_lt (resident v) v.spec.min) [
    | inl less ↦ absurd (not_less c s n v sound none few there less)
    | inr enough ↦ (let most = at_most_min c s.vms n v few there in omega (arith, enough, most))
  ];
  single = λ f below. elim (cases_lt (length (pages_in s f)) 2) [
    | inl few ↦ omega (arith, few)
    | inr two ↦ absurd (not_two c s f sound none few below two)
  ];
}

-- A slot is free for a machine that has not its most pages out.

outs : Option Vm → ℕ
outs o = count_by is_out (vm_places o)

held_some : (i : ℕ) (o : Option Vm) → vm_holds i o ≡ true → 1 ≤ count_by (is_out_at i) (vm_places o)
held_some i None h = cc
held_some i (Some v) h = counted_any (is_out_at i) v.places h

outs_most : (c : Config) (vms : List (Option Vm)) → ((n : ℕ) (v : Vm) → get_or vms n None ≡ Some v → IsVm c v) → sum_by outs vms ≤ sum_by swap_reserve vms
unfolding outs
outs_most c [] each = omega arith
outs_most c (None ∷ os) each =
    let a = sum_by-cons outs None os in
    let b = sum_by-cons swap_reserve None os in
    let rest = outs_most c os (λ n v h. each (suc n) v h) in
    omega (arith, a, b, rest)
outs_most c (Some v ∷ os) each =
    let a = sum_by-cons outs (Some v) os in
    let b = sum_by-cons swap_reserve (Some v) os in
    let here = (each zero v refl).out in
    let rest = outs_most c os (λ n v h. each (suc n) v h) in
    omega (arith, a, b, here, rest)

outs_less : (c : Config) (vms : List (Option Vm)) (n : ℕ) (v : Vm) → ((n : ℕ) (v : Vm) → get_or vms n None ≡ Some v → IsVm c v) → get_or vms n None ≡ Some v → paged_out v < v.spec.max - v.spec.min → sum_by outs vms < sum_by swap_reserve vms
unfolding outs
outs_less c [] n v each there less = cc
outs_less c (o ∷ os) zero v each there less =
    let a = sum_by-cons outs o os in
    let b = sum_by-cons swap_reserve o os in
    let rest = outs_most c os (λ n v h. each (suc n) v h) in
    let t = ap outs there in
    let m = ap swap_reserve there in
    omega (arith, a, b, rest, t, m, less)
outs_less c (None ∷ os) (suc n) v each there less =
    let a = sum_by-cons outs None os in
    let b = sum_by-cons swap_reserve None os in
    let rest = outs_less c os n v (λ n v h. each (suc n) v h) there less in
    omega (arith, a, b, rest)
outs_less c (Some w ∷ os) (suc n) v each there less =
    let a = sum_by-cons outs (Some w) os in
    let b = sum_by-cons swap_reserve (Some w) os in
    let here = (each zero w refl).out in
    let rest = outs_less c os n v (λ n v h. each (suc n) v h) there less in
    omega (arith, a, b, here, rest)

slot_or_not : (c : Config) (s : Site) (n : ℕ) (v : Vm) (o : Option ℕ) → IsSound c s → vm_at s n ≡ Some v → paged_out v < v.spec.max - v.spec.min → least_slot c.slots s ≡ o → (i : ℕ) × (o ≡ Some i)
unfolding least_slot outs
slot_or_not c s n v (Some i) sound there few found = (i, refl)
slot_or_not c s n v None sound there few found =
    let held : (i : ℕ) → i < c.slots → 1 ≤ sum_by (λ o. count_by (is_out_at i) (vm_places o)) s.vms =
    λ i below. sum_any (vm_holds i) (λ o. count_by (is_out_at i) (vm_places o)) s.vms (held_some i) (not_not (is_held s i) (none_found (λ g. not (is_held s g)) 0 c.slots i found (omega (arith, below)) (omega arith))) in
    let least = range_least (λ i. sum_by (λ o. count_by (is_out_at i) (vm_places o)) s.vms) 0 c.slots (λ i below from. held i (omega (arith, below))) in
    let total = covered (λ i o. count_by (is_out_at i) (vm_places o)) outs (range_with_len 0 c.slots) s.vms (λ o. covered (λ i p. one (is_out_at i p)) (λ p. one (is_out p)) (range_with_len 0 c.slots) (vm_places o) (slot_once c.slots)) in
    let under = outs_less c s.vms n v sound.each there few in
    let swap = sound.swap in
    absurd (omega (arith, least, total, under, swap))

pub slot_is_there : (c : Config) (s : Site) (n : ℕ) (v : Vm) → IsSound c s → vm_at s n ≡ Some v → paged_out v < v.spec.max - v.spec.min → (i : ℕ) × (least_slot c.slots s ≡ Some i)
slot_is_there c s n v sound there few = slot_or_not c s n v (least_slot c.slots s) sound there few refl

-- A word draws a page that is here, where there is one.

here_length : (i : ℕ) (ps : List Place) → length (here_from i ps) ≡ count_by is_here ps
here_length i [] = refl
here_length i (p ∷ ps) = (let more = sum_by-cons (λ x. one (is_here x)) p ps in of (is_here p) refl more (here_length (i + 1) ps))
  where
    of : (b : Bool) → is_here p ≡ b → count_by is_here (p ∷ ps) ≡ one (is_here p) + count_by is_here ps → length (here_from (i + 1) ps) ≡ count_by is_here ps → length (cond b (i ∷ here_from (i + 1) ps) (here_from (i + 1) ps)) ≡ count_by is_here (p ∷ ps)
    of true e more rest = (let some : one (is_here p) ≡ 1 = ap one e in omega (arith, more, rest, some))
    of false e more rest = (let none : one (is_here p) ≡ 0 = ap one e in omega (arith, more, rest, none))

pub drawn : (v : Vm) (word : ℕ) → 0 < resident v → (q : ℕ) × (victim v word ≡ Some q)
drawn v word some =
    let len = here_length 0 v.places in
    let k = word % resident v in
    let low : k < length (here_from 0 v.places) = omega (arith, len, some) in
    (get_or (here_from 0 v.places) k 0, slice_get-get_or (here_from 0 v.places) k 0 low)
