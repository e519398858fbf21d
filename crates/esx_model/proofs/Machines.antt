-- What a machine keeps where one of its pages goes to another place.
use Rattle.std.proofs.Common.{zero, [], ◌≡◌, ◌≢◌, ℕ, ◌+◌, ◌-◌, ◌≤◌, ◌<◌, Bool, true, false, length, count_by, refl, sym, ap, ◌∙◌, arith, cond, subst, List, ◌∷◌, get_or, slice_get, Some, suc, ◌%◌}
use Rattle.std.proofs.lemmas.List.{length-set}
use Rattle.std.proofs.lemmas.List.Sums.{sum_by-set, sum_by-cons}
use Rattle.esx_types.specs.declared.config.Config.{Config}
use Rattle.esx_types.specs.declared.vm.VmState.{VmState}
use Rattle.esx_types.specs.declared.vm.VmState.TheVariants.{Starting, Running, Stopping}
use Rattle.esx_model.specs.declared.scene.Place.{Place}
use Rattle.esx_model.specs.declared.scene.Place.TheVariants.{Untouched, Here, Out, Lent}
use Rattle.esx_model.specs.declared.scene.Vm.{Vm}
use Rattle.esx_model.specs.Places.{is_here, is_out, is_lent_in}
use Rattle.esx_model.specs.Site.{place_at, resident, paged_out, lent, here_from}
use Rattle.esx_model.specs.Hints.{with_place}
use Rattle.esx_model.specs.sound.Machines.{IsVm, IsPlace, FitsState}
use Rattle.esx_model.proofs.Lists.{one, all_set, all_at}
use Rattle.esx_model.specs.event.Paging.{victim}

-- so many pages pass a test after one of them went to another place
pub count_placed : (p : Place → Bool) (v : Vm) (page : ℕ) (q : Place) → page < length v.places → count_by p (with_place page q v).places + one (p (place_at v page)) ≡ count_by p v.places + one (p q)
count_placed p v page q within = sum_by-set (λ x. cond (p x) 1 0) v.places page q Untouched within

pub out_placed : (v : Vm) (page : ℕ) (q : Place) → page < length v.places → paged_out (with_place page q v) + one (is_out (place_at v page)) ≡ paged_out v + one (is_out q)
out_placed v page q within = count_placed is_out v page q within

pub lent_placed : (v : Vm) (page : ℕ) (q : Place) → page < length v.places → lent (with_place page q v) + one (is_lent_in v.epoch (place_at v page)) ≡ lent v + one (is_lent_in v.epoch q)
lent_placed v page q within = count_placed (is_lent_in v.epoch) v page q within

pub here_placed : (v : Vm) (page : ℕ) (q : Place) → page < length v.places → resident (with_place page q v) + one (is_here (place_at v page)) ≡ resident v + one (is_here q)
here_placed v page q within = count_placed is_here v page q within

-- what a machine that is past its start keeps does not speak of its pages
fits_placed : (v : Vm) (page : ℕ) (q : Place) (state : VmState) → state ≢ Starting → FitsState v state → FitsState (with_place page q v) state
fits_placed v page q Starting past fits = absurd (past refl)
fits_placed v page q Running past fits = fits
fits_placed v page q Stopping past fits = fits

pub vm_placed : (c : Config) (v : Vm) (page : ℕ) (q : Place) → IsVm c v → v.state ≢ Starting → IsPlace c v.epoch q
    → paged_out (with_place page q v) ≤ v.spec.max - v.spec.min → lent (with_place page q v) ≤ v.spec.balloon_max → IsVm c (with_place page q v)
vm_placed c v page q fine past place out lends = record {
  good = fine.good;
  pages = length-set v.places page q ∙ fine.pages;
  least_target = fine.least_target;
  most_target = fine.most_target;
  state = fits_placed v page q v.state past fine.state;
  places = all_set (IsPlace c v.epoch) v.places page q fine.places place;
  out = out;
  lends = lends;
  closed = fine.closed;
  period = fine.period;
}

pub old_place : (c : Config) (v : Vm) (page : ℕ) → IsVm c v → page < length v.places → IsPlace c v.epoch (place_at v page)
old_place c v page fine within = all_at (IsPlace c v.epoch) v.places page Untouched fine.places within

-- what a machine keeps in its state speaks of its overhead, its pages and its period
pub fits_as : (v w : Vm) (state : VmState) → length w.overhead ≡ length v.overhead → w.spec.overhead ≡ v.spec.overhead → w.places ≡ v.places → w.epoch ≡ v.epoch → w.period ≡ v.period → FitsState v state → FitsState w state
fits_as v w Starting held overhead places epoch period fits = (
  omega (arith, fits.0),
  ap (λ ps. count_by is_here ps) places ∙ fits.1,
  ap (λ ps. count_by is_out ps) places ∙ fits.2,
  ap (λ e. count_by (is_lent_in e) w.places) epoch ∙ ap (λ ps. count_by (is_lent_in v.epoch) ps) places ∙ fits.3,
  period ∙ fits.4,
)
fits_as v w Running held overhead places epoch period fits = held ∙ fits ∙ sym overhead
fits_as v w Stopping held overhead places epoch period fits = (omega (arith, fits.0), period ∙ fits.1)

-- a machine that runs has all its overhead frames
pub running_fits : (v w : Vm) → v.state ≡ Running → w.state ≡ Running → w.overhead ≡ v.overhead → w.spec.overhead ≡ v.spec.overhead → FitsState v v.state → FitsState w w.state
running_fits v w was is held overhead fits =
    let P : VmState → Type 0 = FitsState v in
    let Q : VmState → Type 0 = FitsState w in
    let old : length v.overhead ≡ v.spec.overhead = subst P was fits in
    subst Q (sym is) (ap length held ∙ old ∙ sym overhead)

pub not_out : (c : Config) (v : Vm) (page : ℕ) (q : Place) → IsVm c v → page < length v.places → is_out q ≡ false → paged_out (with_place page q v) ≤ v.spec.max - v.spec.min
not_out c v page q fine within e =
    let counts = out_placed v page q within in
    let none : one (is_out q) ≡ 0 = ap one e in
    omega (arith, counts, none, fine.out)

pub not_lent : (c : Config) (v : Vm) (page : ℕ) (q : Place) → IsVm c v → page < length v.places → is_lent_in v.epoch q ≡ false → lent (with_place page q v) ≤ v.spec.balloon_max
not_lent c v page q fine within e =
    let counts = lent_placed v page q within in
    let none : one (is_lent_in v.epoch q) ≡ 0 = ap one e in
    omega (arith, counts, none, fine.lends)

pub most_one : (b : Bool) → one b ≤ 1
most_one true = omega arith
most_one false = omega arith

-- pages here and out are different pages
pub apart_counts : (ps : List Place) → count_by is_here ps + count_by is_out ps ≤ length ps
apart_counts [] = omega arith
apart_counts (p ∷ ps) =
    let here = sum_by-cons (λ x. cond (is_here x) 1 0) p ps in
    let out = sum_by-cons (λ x. cond (is_out x) 1 0) p ps in
    let both = at_most_one p in
    let rest = apart_counts ps in
    omega (arith, here, out, both, rest)
  where
    at_most_one : (p : Place) → one (is_here p) + one (is_out p) ≤ 1
    at_most_one Untouched = omega arith
    at_most_one (Here bytes f shared) = omega arith
    at_most_one (Out bytes i) = omega arith
    at_most_one (Lent e) = omega arith

-- the page that a word draws is here

abbrev IsDrawn : ℕ → List Place → ℕ → Type 0
IsDrawn i ps q = (j : ℕ) × (q ≡ i + j) × (j < length ps) × (is_here (get_or ps j Untouched) ≡ true)

drawn_later : (i : ℕ) (p : Place) (ps : List Place) (q : ℕ) → IsDrawn (i + 1) ps q → IsDrawn i (p ∷ ps) q
drawn_later i p ps q r = (suc r.0, omega (arith, r.1), omega (arith, r.2), r.3)

drawn_one : (i : ℕ) (p : Place) (ps : List Place) (q : ℕ) (b : Bool) → is_here p ≡ b → ((k : ℕ) → slice_get (here_from (i + 1) ps) k ≡ Some q → IsDrawn (i + 1) ps q)
    → (k : ℕ) → slice_get (cond b (i ∷ here_from (i + 1) ps) (here_from (i + 1) ps)) k ≡ Some q → IsDrawn i (p ∷ ps) q
drawn_one i p ps q true e rest zero h = (zero, (let d : i ≡ q = cc in omega (arith, d)), omega arith, e)
drawn_one i p ps q true e rest (suc k) h = drawn_later i p ps q (rest k h)
drawn_one i p ps q false e rest k h = drawn_later i p ps q (rest k h)

drawn_from : (i : ℕ) (ps : List Place) (k q : ℕ) → slice_get (here_from i ps) k ≡ Some q → IsDrawn i ps q
drawn_from i [] k q h = cc
drawn_from i (p ∷ ps) k q h = drawn_one i p ps q (is_here p) refl (λ j e. drawn_from (i + 1) ps j q e) k h

pub drawn_is_here : (v : Vm) (word q : ℕ) → victim v word ≡ Some q → (q < length v.places) × (is_here (place_at v q) ≡ true)
drawn_is_here v word q h =
    let d = drawn_from 0 v.places (word % resident v) q h in
    let same : q ≡ d.0 = omega (arith, d.1) in
    let P : ℕ → Type 0 = λ k. (k < length v.places) × (is_here (get_or v.places k Untouched) ≡ true) in
    subst P (sym same) (d.2, d.3)
