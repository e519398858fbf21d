-- The balloon keeps a site sound.
use Rattle.std.proofs.Common.{◌≡◌, ◌≢◌, ℕ, ◌+◌, ◌≤◌, ◌<◌, false, nat_le, List, [], ◌∷◌, length, count_by, refl, sym, ap, ◌∙◌, arith, cond, Some, Ok, inl, inr, ◌-◌}
use Rattle.std.specs.List.{AllByRecursion}
use Rattle.std.proofs.lemmas.List.Sums.{sum_by-cons}
use Rattle.std.proofs.lemmas.Bool.Decides.{nat_tests}
use Rattle.esx_types.specs.declared.config.Config.{Config}
use Rattle.esx_types.specs.declared.vm.VmState.TheVariants.{Starting, Running}
use Rattle.esx_events.specs.declared.event.Answer.{Answer}
use Rattle.esx_events.specs.declared.event.Answer.TheVariants as answers
use Rattle.esx_model.specs.declared.scene.Place.{Place}
use Rattle.esx_model.specs.declared.scene.Place.TheVariants.{Untouched, Here, Out, Lent}
use Rattle.esx_model.specs.declared.scene.Vm.{Vm}
use Rattle.esx_model.specs.declared.scene.Site.{Site}
use Rattle.esx_model.specs.Places.{is_lent_in}
use Rattle.esx_model.specs.Site.{vm_at, with_vm, lent, place_at}
use Rattle.esx_model.specs.event.Outcome.{Outcome, standing, goal, running_gate, page_gate}
use Rattle.esx_model.specs.event.Balloon.{is_lent, popped, unless_due, lend_gate, take_back_gate, ask, lend, take_back}
use Rattle.esx_model.specs.sound.Machines.{IsVm, IsPlace}
use Rattle.esx_model.specs.sound.Sound.{IsSound}
use Rattle.esx_model.proofs.Lists.{all_map, chosen}
use Rattle.esx_model.proofs.Lists.{one}
use Rattle.esx_model.proofs.Machines.{fits_as, running_fits, not_out, not_lent, lent_placed, most_one}
use Rattle.esx_model.proofs.Kept.{Becomes, row_only, placed_sound}
use Rattle.esx_model.proofs.Rooms.{room_nowhere, room_lent}
use Rattle.esx_model.proofs.Gates.{of_vm, passed, gives, accepted, not_not, runs}
use Rattle.esx_model.specs.Hints.{with_place, placed}

pub popped_becomes : (c : Config) (v : Vm) (page : ℕ) → IsVm c v → Becomes c v (popped page v)
popped_becomes c v page fine = record {
  fine = record {
    good = fine.good;
    pages = fine.pages;
    least_target = fine.least_target;
    most_target = fine.most_target;
    state = fits_as v (popped page v) v.state refl refl refl refl refl fine.state;
    places = fine.places;
    out = fine.out;
    lends = fine.lends;
    closed = fine.closed;
    period = fine.period;
  };
  memory = refl;
  swap = refl;
}

-- a reset: all loans are over
abbrev pub reset : Vm → Vm
reset v = record v { epoch = v.epoch + 1; due = false }

later_place : (c : Config) (e : ℕ) (p : Place) → IsPlace c e p → IsPlace c (e + 1) p
later_place c e Untouched h = tt
later_place c e (Here bytes f shared) h = h
later_place c e (Out bytes i) h = h
later_place c e (Lent d) h = omega arith

no_loan : (c : Config) (e : ℕ) (p : Place) → IsPlace c e p → is_lent_in (e + 1) p ≡ false
no_loan c e Untouched h = refl
no_loan c e (Here bytes f shared) h = refl
no_loan c e (Out bytes i) h = refl
no_loan c e (Lent d) h = grind (arith, nat_tests)

no_loans : (c : Config) (e : ℕ) (ps : List Place) → AllByRecursion (IsPlace c e) ps → count_by (is_lent_in (e + 1)) ps ≡ 0
no_loans c e [] h = refl
no_loans c e (p ∷ ps) h =
    let more = sum_by-cons (λ q. cond (is_lent_in (e + 1) q) 1 0) p ps in
    let none : one (is_lent_in (e + 1) p) ≡ 0 = ap one (no_loan c e p h.0) in
    let rest = no_loans c e ps h.1 in
    omega (arith, more, none, rest)

reset_becomes : (c : Config) (v : Vm) → IsVm c v → v.state ≡ Running → Becomes c v (reset v)
reset_becomes c v fine running = record {
  fine = record {
    good = fine.good;
    pages = fine.pages;
    least_target = fine.least_target;
    most_target = fine.most_target;
    state = running_fits v (reset v) running running refl refl fine.state;
    places = all_map (IsPlace c v.epoch) (IsPlace c (v.epoch + 1)) (later_place c v.epoch) v.places fine.places;
    out = fine.out;
    lends = (let none = no_loans c v.epoch v.places fine.places in omega arith);
    closed = fine.closed;
    period = fine.period;
  };
  memory = refl;
  swap = refl;
}

reset_sound : (c : Config) (s : Site) (n : ℕ) (v : Vm) → IsSound c s → vm_at s n ≡ Some v → v.state ≡ Running → IsSound c (with_vm s n (reset v))
reset_sound c s n v sound there running = row_only c s n v (reset v) sound there (reset_becomes c v (sound.each n v there) running) refl refl

-- a reset that was due, or what the driver asked for
due_sound : (c : Config) (s : Site) (n : ℕ) (v : Vm) (o : Outcome) (r : Answer × Site) → IsSound c s → vm_at s n ≡ Some v → v.state ≡ Running → unless_due s n v o ≡ Ok r
    → (o ≡ Ok r → IsSound c r.1) → IsSound c r.1
due_sound c s n v o r sound there running h else_sound = elim (chosen v.due (accepted (answers.Reset (v.epoch + 1)) (with_vm s n (reset v))) o (Ok r) h) [
  | inl w ↦ gives c (answers.Reset (v.epoch + 1)) (with_vm s n (reset v)) r w.1 (reset_sound c s n v sound there running)
  | inr w ↦ else_sound w.1
]

pub past_start : (v : Vm) → v.state ≡ Running → v.state ≢ Starting
past_start v running e = (let d : Running ≡ Starting = sym running ∙ e in cc)

pub ask_sound : (c : Config) (s : Site) (n : ℕ) (r : Answer × Site) → IsSound c s → ask s n ≡ Ok r → IsSound c r.1
unfolding ask
ask_sound c s n r sound h =
    let m = of_vm (vm_at s n) _ r h in
    let v = m.vm in
    let pass = passed (running_gate (standing v)) _ r m.then in
    let running = runs v.state (not_not _ pass.0.0) in
    due_sound c s n v (accepted (answers.Goal (goal (standing v)) (lent v) v.epoch) s) r sound m.there running pass.1 (λ e. gives c (answers.Goal (goal (standing v)) (lent v) v.epoch) s r e sound)

pub below_max : (max page : ℕ) → nat_le max page ≡ false → page < max
below_max max page h = grind (arith, nat_tests)

lends_one : (c : Config) (v : Vm) (page : ℕ) → IsVm c v → page < length v.places → nat_le (goal (standing v)) (lent v) ≡ false → lent (with_place page (Lent v.epoch) v) ≤ v.spec.balloon_max
lends_one c v page fine within h =
    let counts = lent_placed v page (Lent v.epoch) within in
    let below : lent v < goal (standing v) = below_max (goal (standing v)) (lent v) h in
    let most : one (is_lent_in v.epoch (Lent v.epoch)) ≤ 1 = most_one (is_lent_in v.epoch (Lent v.epoch)) in
    omega (arith, counts, below, most)

pub lend_sound : (c : Config) (s : Site) (n page : ℕ) (r : Answer × Site) → IsSound c s → lend s n page ≡ Ok r → IsSound c r.1
unfolding lend
lend_sound c s n page r sound h =
    let m = of_vm (vm_at s n) _ r h in
    let v = m.vm in
    let pass = passed (page_gate (standing v) page) _ r m.then in
    let running = runs v.state (not_not _ pass.0.0) in
    let below = below_max v.spec.max page pass.0.1.0 in
    let fine = sound.each n v m.there in
    let within : page < length v.places = omega (arith, fine.pages) in
    due_sound c s n v _ r sound m.there running pass.1 (λ e.
    let more = passed (lend_gate (is_lent v page) (standing v)) _ r e in
    gives c (answers.Lent (lent v + 1) (goal (standing v))) (placed s n page (Lent v.epoch)) r more.1
    (placed_sound c s n page v (Lent v.epoch) sound m.there below (past_start v running) (omega arith) (not_out c v page (Lent v.epoch) fine within refl)
    (lends_one c v page fine within more.0.1.0) (room_lent c s (place_at v page) v.epoch)))

pub take_back_sound : (c : Config) (s : Site) (n page : ℕ) (r : Answer × Site) → IsSound c s → take_back s n page ≡ Ok r → IsSound c r.1
unfolding take_back
take_back_sound c s n page r sound h =
    let m = of_vm (vm_at s n) _ r h in
    let v = m.vm in
    let pass = passed (page_gate (standing v) page) _ r m.then in
    let running = runs v.state (not_not _ pass.0.0) in
    let below = below_max v.spec.max page pass.0.1.0 in
    let fine = sound.each n v m.there in
    let within : page < length v.places = omega (arith, fine.pages) in
    due_sound c s n v _ r sound m.there running pass.1 (λ e.
    let more = passed (take_back_gate (is_lent v page)) _ r e in
    gives c (answers.TakenBack (lent v - 1)) (placed s n page Untouched) r more.1
    (placed_sound c s n page v Untouched sound m.there below (past_start v running) tt (not_out c v page Untouched fine within refl)
    (not_lent c v page Untouched fine within refl) (room_nowhere c s (place_at v page))))
