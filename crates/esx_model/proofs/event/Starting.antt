-- A machine that takes an overhead frame keeps a site sound.
use Rattle.std.proofs.Common.{◌≡◌, ℕ, ◌+◌, ◌≤◌, ◌<◌, Bool, true, false, not, nat_lt, List, [], ◌∷◌, length, length-append, set, refl, sym, subst, arith, cond, Option, Some, None, Ok}
use Rattle.std.proofs.lemmas.Bool.Decides.{nat_tests}
use Rattle.esx_types.specs.declared.config.Config.{Config}
use Rattle.esx_types.specs.declared.vm.VmState.{VmState}
use Rattle.esx_types.specs.declared.vm.VmState.TheVariants.{Starting, Running, Stopping}
use Rattle.esx_events.specs.declared.event.Answer.{Answer}
use Rattle.esx_events.specs.declared.event.Answer.TheVariants as answers
use Rattle.esx_model.specs.declared.scene.Place.{Place}
use Rattle.esx_model.specs.declared.scene.Vm.{Vm}
use Rattle.esx_model.specs.declared.scene.Site.{Site}
use Rattle.esx_model.specs.Site.{vm_at, with_vm, place_of, vm_overhead, all_places, all_overhead, least_free}
use Rattle.esx_model.specs.event.Outcome.{standing, is_running, is_stopping}
use Rattle.esx_model.specs.event.Starting.{start_gate, with_overhead, take_overhead, start}
use Rattle.esx_model.specs.sound.Machines.{IsVm, FitsState}
use Rattle.esx_model.specs.sound.Frames.{AreFrames}
use Rattle.esx_model.specs.sound.Sound.{IsSound}
use Rattle.esx_model.proofs.Lists.{Inserted, inserted_inside, some_below}
use Rattle.esx_model.proofs.FramesKept.{frames_more}
use Rattle.esx_model.proofs.HintsKept.{hints_stay}
use Rattle.esx_model.proofs.Kept.{Becomes, conclude, vm_changed, places_same, place_changed}
use Rattle.esx_model.proofs.Rooms.{least_unused}
use Rattle.esx_model.proofs.Gates.{of_vm, passed, gives}

pub starts : (state : VmState) → is_running state ≡ false → is_stopping state ≡ false → state ≡ Starting
starts Starting h k = refl
starts Running h k = cc
starts Stopping h k = cc

-- one frame more: the last one, or not yet
fits_more : (v : Vm) (f : ℕ) (b : Bool) → nat_lt (length v.overhead + 1) v.spec.overhead ≡ b → FitsState v Starting → FitsState (with_overhead v f) (cond b Starting Running)
fits_more v f true e fits = (let len = length-append v.overhead (f ∷ []) in let less = lower (length v.overhead + 1) v.spec.overhead e in omega (arith, len, less), fits.1, fits.2, fits.3, fits.4)
  where
    lower : (a b : ℕ) → nat_lt a b ≡ true → a < b
    lower a b h = grind (arith, nat_tests)
fits_more v f false e fits = (let len = length-append v.overhead (f ∷ []) in let most = upper (length v.overhead + 1) v.spec.overhead e in let old = fits.0 in omega (arith, len, most, old))
  where
    upper : (a b : ℕ) → nat_lt a b ≡ false → b ≤ a
    upper a b h = grind (arith, nat_tests)

overhead_becomes : (c : Config) (v : Vm) (f : ℕ) → IsVm c v → v.state ≡ Starting → Becomes c v (with_overhead v f)
overhead_becomes c v f fine starting =
    let P : VmState → Type 0 = FitsState v in
    record {
      fine = record {
        good = fine.good;
        pages = fine.pages;
        least_target = fine.least_target;
        most_target = fine.most_target;
        state = fits_more v f (nat_lt (length v.overhead + 1) v.spec.overhead) refl (subst P starting fine.state);
        places = fine.places;
        out = fine.out;
        lends = fine.lends;
        closed = fine.closed;
        period = fine.period;
      };
      memory = refl;
      swap = refl;
    }

pub overhead_inserted : (s : Site) (n f : ℕ) (v : Vm) → vm_at s n ≡ Some v → Inserted f (all_overhead s) (all_overhead (with_vm s n (with_overhead v f)))
unfolding all_overhead
overhead_inserted s n f v there =
    inserted_inside vm_overhead (Some v) (Some (with_overhead v f)) s.vms (set s.vms n (Some (with_overhead v f))) f (vm_changed s n (Some v) (with_overhead v f) (some_below s.vms n v there) there) refl

started : (c : Config) (s : Site) (n f : ℕ) (v : Vm) → IsSound c s → vm_at s n ≡ Some v → v.state ≡ Starting → least_free c.frames s ≡ Some f → IsSound c (with_vm s n (with_overhead v f))
started c s n f v sound there starting found =
    let w = with_overhead v f in
    let unused = least_unused c.frames s f found in
    let P : List Place → Type 0 = λ ps. AreFrames c.frames ps (all_overhead (with_vm s n w)) in
    conclude c s n v w s.hints sound there (overhead_becomes c v f (sound.each n v there) starting)
    (subst P (sym (places_same s n v w s.hints there refl)) (frames_more c.frames (all_places s) (all_overhead s) (all_overhead (with_vm s n w)) f sound.frames (overhead_inserted s n f v there) unused.below unused.pages unused.clear))
    (hints_stay (place_of s) (place_of (with_vm s n w)) s.hints sound.hints (λ m k. place_changed s n m k v w s.hints there (λ e. refl)))

take_sound : (c : Config) (s : Site) (n : ℕ) (v : Vm) (o : Option ℕ) (r : Answer × Site) → IsSound c s → vm_at s n ≡ Some v → v.state ≡ Starting → least_free c.frames s ≡ o → take_overhead s n v o ≡ Ok r → IsSound c r.1
take_sound c s n v None r sound there starting found h = cc
take_sound c s n v (Some f) r sound there starting found h =
    gives c (answers.Started (not (nat_lt (length v.overhead + 1) v.spec.overhead)) f (length v.overhead + 1) v.spec.overhead) (with_vm s n (with_overhead v f)) r h (started c s n f v sound there starting found)

pub start_sound : (c : Config) (s : Site) (n : ℕ) (r : Answer × Site) → IsSound c s → start c s n ≡ Ok r → IsSound c r.1
unfolding start
start_sound c s n r sound h =
    let m = of_vm (vm_at s n) _ r h in
    let v = m.vm in
    let pass = passed (start_gate (standing v)) _ r m.then in
    take_sound c s n v (least_free c.frames s) r sound m.there (starts v.state pass.0.0 pass.0.1.0) refl pass.1
