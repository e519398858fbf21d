-- A machine that gives back its overhead frames and goes keeps a site sound.
use Rattle.std.proofs.Common.{◌≡◌, ℕ, zero, suc, ◌+◌, ◌-◌, ◌≤◌, ◌<◌, Bool, true, false, nat_lt, List, [], ◌∷◌, ◌++◌, length, get_or, set, take, count_by, sum_by, refl, sym, ap, ◌∙◌, subst, arith, cond, Option, Some, None, Ok, inl, inr}
use Rattle.std.specs.List.{filter}
use Rattle.std.proofs.lemmas.List.{length-set, get_or-set_same, get_or-set_other}
use Rattle.std.proofs.lemmas.List.Sums.{sum_by-set, sum_by-cons}
use Rattle.std.proofs.lemmas.Bool.{cases_eq}
use Rattle.std.proofs.lemmas.Bool.Decides.{nat_tests}
use Rattle.std.proofs.lemmas.Grind.{common_steps}
use Rattle.esx_types.specs.declared.config.Config.{Config}
use Rattle.esx_types.specs.declared.vm.VmState.{VmState}
use Rattle.esx_types.specs.declared.vm.VmState.TheVariants.{Stopping}
use Rattle.esx_events.specs.declared.event.Answer.{Answer}
use Rattle.esx_events.specs.declared.event.Answer.TheVariants as answers
use Rattle.esx_model.specs.declared.scene.Place.{Place}
use Rattle.esx_model.specs.declared.scene.Place.TheVariants.{Untouched, Here, Out, Lent}
use Rattle.esx_model.specs.declared.scene.Vm.{Vm}
use Rattle.esx_model.specs.declared.scene.Site.{Site}
use Rattle.esx_model.specs.Places.{is_here_at, is_out_at, is_here, is_out, is_private}
use Rattle.esx_model.specs.Site.{vm_at, with_vm, place_in, place_of, vm_places, vm_overhead, all_places, all_overhead, memory_reserve, swap_reserve, resident, paged_out}
use Rattle.esx_model.specs.event.Outcome.{standing}
use Rattle.esx_model.specs.event.Leaving.{gone_gate, without_last, gone}
use Rattle.esx_model.specs.sound.Machines.{IsVm, FitsState}
use Rattle.esx_model.specs.sound.Frames.{AreFrames}
use Rattle.esx_model.specs.sound.Sound.{IsSound}
use Rattle.esx_model.proofs.Lists.{Changed, changed_by_set, Inserted, inserted_inside, same_inside, filter_inside, flipped, none_counted, some_below, chosen, one}
use Rattle.esx_model.proofs.FramesKept.{frames_same, frames_fewer}
use Rattle.esx_model.proofs.HintsKept.{hints_stay, hints_where}
use Rattle.esx_model.proofs.Kept.{Becomes, conclude, vm_changed, places_same, place_changed}
use Rattle.esx_model.proofs.Gates.{of_vm, passed, gives, accepted, not_not, stops}

-- One frame goes back.

last_again : (held : List ℕ) → 0 < length held → take (length held - 1) held ++ get_or held (length held - 1) 0 ∷ [] ≡ held
last_again held h = grind (arith, common_steps)

fewer_becomes : (c : Config) (v : Vm) → IsVm c v → v.state ≡ Stopping → Becomes c v (without_last v)
fewer_becomes c v fine stopping =
    let P : VmState → Type 0 = FitsState v in
    let Q : VmState → Type 0 = FitsState (without_last v) in
    let old = subst P stopping fine.state in
    let len : length (take (length v.overhead - 1) v.overhead) ≤ length v.overhead = grind (arith, common_steps) in
    record {
      fine = record {
        good = fine.good;
        pages = fine.pages;
        least_target = fine.least_target;
        most_target = fine.most_target;
        state = subst Q (sym stopping) ((let most = old.0 in omega (arith, len, most)), old.1);
        places = fine.places;
        out = fine.out;
        lends = fine.lends;
        closed = fine.closed;
        period = fine.period;
      };
      memory = refl;
      swap = refl;
    }

pub last_inserted : (s : Site) (n : ℕ) (v : Vm) → vm_at s n ≡ Some v → 0 < length v.overhead → Inserted (get_or v.overhead (length v.overhead - 1) 0) (all_overhead (with_vm s n (without_last v))) (all_overhead s)
unfolding all_overhead
last_inserted s n v there some =
    inserted_inside vm_overhead (Some (without_last v)) (Some v) (set s.vms n (Some (without_last v))) s.vms (get_or v.overhead (length v.overhead - 1) 0)
    (flipped (Some v) (Some (without_last v)) s.vms (set s.vms n (Some (without_last v))) (vm_changed s n (Some v) (without_last v) (some_below s.vms n v there) there)) (sym (last_again v.overhead some))

fewer_sound : (c : Config) (s : Site) (n : ℕ) (v : Vm) → IsSound c s → vm_at s n ≡ Some v → v.state ≡ Stopping → 0 < length v.overhead → IsSound c (with_vm s n (without_last v))
fewer_sound c s n v sound there stopping some =
    let w = without_last v in
    let P : List Place → Type 0 = λ ps. AreFrames c.frames ps (all_overhead (with_vm s n w)) in
    conclude c s n v w s.hints sound there (fewer_becomes c v (sound.each n v there) stopping)
    (subst P (sym (places_same s n v w s.hints there refl)) (frames_fewer c.frames (all_places s) (all_overhead s) (all_overhead (with_vm s n w)) (get_or v.overhead (length v.overhead - 1) 0) sound.frames (last_inserted s n v there some)))
    (hints_stay (place_of s) (place_of (with_vm s n w)) s.hints sound.hints (λ m k. place_changed s n m k v w s.hints there (λ e. refl)))

-- The machine goes.

abbrev pub without_vm : Site → ℕ → Site
without_vm s n = record s { vms = set s.vms n None }

none_changed : (s : Site) (n : ℕ) (v : Vm) → vm_at s n ≡ Some v → Changed (Some v) None s.vms (set s.vms n None)
none_changed s n v there = let P : Option Vm → Type 0 = λ x. Changed x None s.vms (set s.vms n None) in subst P there (changed_by_set s.vms n None None (some_below s.vms n v there))

pub in_frame_here : (f : ℕ) (p : Place) → is_here_at f p ≡ true → is_here p ≡ true
in_frame_here f Untouched h = cc
in_frame_here f (Here bytes g shared) h = refl
in_frame_here f (Out bytes i) h = cc
in_frame_here f (Lent e) h = cc

pub in_slot_out : (i : ℕ) (p : Place) → is_out_at i p ≡ true → is_out p ≡ true
in_slot_out i Untouched h = cc
in_slot_out i (Here bytes g shared) h = cc
in_slot_out i (Out bytes j) h = refl
in_slot_out i (Lent e) h = cc

pub places_fewer : (s : Site) (n : ℕ) (v : Vm) (p q : Place → Bool) → vm_at s n ≡ Some v → ((x : Place) → q x ≡ true → p x ≡ true) → count_by p v.places ≡ 0 → filter q (all_places (without_vm s n)) ≡ filter q (all_places s)
unfolding all_places
places_fewer s n v p q there within none = filter_inside q vm_places (Some v) None s.vms (set s.vms n None) (none_changed s n v there) (none_counted p q v.places within none)

pub overhead_gone : (s : Site) (n : ℕ) (v : Vm) → vm_at s n ≡ Some v → v.overhead ≡ [] → all_overhead (without_vm s n) ≡ all_overhead s
unfolding all_overhead
overhead_gone s n v there none = same_inside vm_overhead (Some v) None s.vms (set s.vms n None) (none_changed s n v there) none

pub overhead_last : (s : Site) (n f : ℕ) (v : Vm) → vm_at s n ≡ Some v → v.overhead ≡ f ∷ [] → Inserted f (all_overhead (without_vm s n)) (all_overhead s)
unfolding all_overhead
overhead_last s n f v there is =
    inserted_inside vm_overhead None (Some v) (set s.vms n None) s.vms f (flipped (Some v) None s.vms (set s.vms n None) (none_changed s n v there)) is

frames_without : (c : Config) (s : Site) (n : ℕ) (v : Vm) (held : List ℕ) → AreFrames c.frames (all_places (without_vm s n)) (all_overhead s) → vm_at s n ≡ Some v → v.overhead ≡ held → length held ≤ 1
    → AreFrames c.frames (all_places (without_vm s n)) (all_overhead (without_vm s n))
frames_without c s n v [] fine there is few = let P : List ℕ → Type 0 = AreFrames c.frames (all_places (without_vm s n)) in subst P (sym (overhead_gone s n v there is)) fine
frames_without c s n v (f ∷ []) fine there is few = frames_fewer c.frames (all_places (without_vm s n)) (all_overhead s) (all_overhead (without_vm s n)) f fine (overhead_last s n f v there is)
frames_without c s n v (f ∷ g ∷ held) fine there is few = absurd (omega arith)

private_here : (p : Place) → is_private p ≡ true → is_here p ≡ true
private_here Untouched h = cc
private_here (Here bytes f shared) h = refl
private_here (Out bytes i) h = cc
private_here (Lent e) h = cc

none_private : (ps : List Place) (k : ℕ) → count_by is_here ps ≡ 0 → is_private (get_or ps k Untouched) ≡ true → ⊥
none_private [] k none h = cc
none_private (p ∷ ps) zero none h =
    let more = sum_by-cons (λ x. cond (is_here x) 1 0) p ps in
    let some : one (is_here p) ≡ 1 = ap one (private_here p h) in
    omega (arith, more, none, some)
none_private (p ∷ ps) (suc k) none h =
    let more = sum_by-cons (λ x. cond (is_here x) 1 0) p ps in
    none_private ps k (omega (arith, more, none)) h

vm_left : (s : Site) (n m : ℕ) (x : Vm) → n < length s.vms → vm_at (without_vm s n) m ≡ Some x → vm_at s m ≡ Some x
vm_left s n m x below h = elim (cases_eq m n) [
  | inl e ↦ (let gone = ap (λ j. get_or (set s.vms n None) j None) e ∙ get_or-set_same s.vms n None None below in let no : Some x ≡ None = sym h ∙ gone in cc)
  | inr other ↦ sym (get_or-set_other s.vms n m None None other) ∙ h
]

pub place_left : (s : Site) (n m k : ℕ) (v : Vm) → vm_at s n ≡ Some v → resident v ≡ 0 → is_private (place_of s m k) ≡ true → place_of (without_vm s n) m k ≡ place_of s m k
place_left s n m k v there none h = elim (cases_eq m n) [
  | inl e ↦ absurd (none_private v.places k none (ap (λ o. is_private (place_in o k)) (sym there) ∙ ap (λ j. is_private (place_of s j k)) (sym e) ∙ h))
  | inr other ↦ ap (λ o. place_in o k) (get_or-set_other s.vms n m None None other)
]

reserve_less : (f : Option Vm → ℕ) (s : Site) (n : ℕ) (v : Vm) → vm_at s n ≡ Some v → f None ≡ 0 → sum_by f (set s.vms n None) ≤ sum_by f s.vms
reserve_less f s n v there none = (let sums = sum_by-set f s.vms n None None (some_below s.vms n v there) in omega (arith, sums, none))

gone_sound_by : (c : Config) (s : Site) (n : ℕ) (v : Vm) → IsSound c s → vm_at s n ≡ Some v → resident v ≡ 0 → paged_out v ≡ 0 → length v.overhead ≤ 1 → IsSound c (without_vm s n)
gone_sound_by c s n v sound there here out few = record {
  vms = length-set s.vms n None ∙ sound.vms;
  each = λ m x h. sound.each m x (vm_left s n m x (some_below s.vms n v there) h);
  memory = (let less = reserve_less memory_reserve s n v there refl in omega (arith, less, sound.memory));
  swap = (let less = reserve_less swap_reserve s n v there refl in omega (arith, less, sound.swap));
  tau = sound.tau;
  frames = frames_without c s n v v.overhead (frames_same c.frames (all_places s) (all_places (without_vm s n)) (all_overhead s) sound.frames
      (λ f. places_fewer s n v is_here (is_here_at f) there (in_frame_here f) here) (λ i. places_fewer s n v is_out (is_out_at i) there (in_slot_out i) out)) there refl few;
  hints = hints_where (place_of s) (place_of (without_vm s n)) s.hints sound.hints (λ m k h. place_left s n m k v there here h);
}

none_left : (a b : ℕ) → nat_lt 0 (a + b) ≡ false → (a ≡ 0) × (b ≡ 0)
none_left a b h = (grind (arith, nat_tests), grind (arith, nat_tests))

some_held : (n : ℕ) → nat_lt 1 n ≡ true → 0 < n
some_held n h = grind (arith, nat_tests)

few_held : (n : ℕ) → nat_lt 1 n ≡ false → n ≤ 1
few_held n h = grind (arith, nat_tests)

pub gone_sound : (c : Config) (s : Site) (n : ℕ) (r : Answer × Site) → IsSound c s → gone s n ≡ Ok r → IsSound c r.1
unfolding gone
gone_sound c s n r sound h =
    let m = of_vm (vm_at s n) _ r h in
    let v = m.vm in
    let pass = passed (gone_gate (standing v)) _ r m.then in
    let none = none_left (resident v) (paged_out v) pass.0.1.0 in
    elim (chosen (nat_lt 1 (length v.overhead)) (accepted (answers.GivenBack (length v.overhead - 1)) (with_vm s n (without_last v))) (accepted answers.Gone (without_vm s n)) (Ok r) pass.1) [
      | inl w ↦ gives c (answers.GivenBack (length v.overhead - 1)) (with_vm s n (without_last v)) r w.1 (fewer_sound c s n v sound m.there (stops v.state (not_not _ pass.0.0)) (some_held (length v.overhead) w.0))
      | inr w ↦ gives c answers.Gone (without_vm s n) r w.1 (gone_sound_by c s n v sound m.there none.0 none.1 (few_held (length v.overhead) w.0))
    ]
