-- A machine that stops keeps a site sound.
use Rattle.std.proofs.Common.{◌≡◌, ◌≢◌, ℕ, ◌≤◌, ◌<◌, ◌||◌, length, refl, sym, ◌∙◌, arith, None, Ok}
use Rattle.esx_types.specs.declared.config.Config.{Config}
use Rattle.esx_types.specs.declared.vm.VmState.{VmState}
use Rattle.esx_types.specs.declared.vm.VmState.TheVariants.{Starting, Running, Stopping}
use Rattle.esx_events.specs.declared.event.Answer.{Answer}
use Rattle.esx_events.specs.declared.event.Answer.TheVariants as answers
use Rattle.esx_model.specs.declared.scene.Place.TheVariants.{Untouched}
use Rattle.esx_model.specs.declared.scene.Vm.{Vm}
use Rattle.esx_model.specs.declared.scene.Site.{Site}
use Rattle.esx_model.specs.Places.{is_here, is_out}
use Rattle.esx_model.specs.Site.{vm_at, with_vm, place_at}
use Rattle.esx_model.specs.Hints.{placed}
use Rattle.esx_model.specs.event.Outcome.{standing}
use Rattle.esx_model.specs.event.Leaving.{stop_gate, stop, drop_gate, drop_page}
use Rattle.esx_model.specs.sound.Machines.{IsVm, FitsState}
use Rattle.esx_model.specs.sound.Sound.{IsSound}
use Rattle.esx_model.proofs.Machines.{not_out, not_lent}
use Rattle.esx_model.proofs.Kept.{Becomes, row_only, placed_sound}
use Rattle.esx_model.proofs.Rooms.{room_nowhere}
use Rattle.esx_model.proofs.Gates.{of_vm, passed, gives, not_not, stops}
use Rattle.esx_model.proofs.event.Balloon.{below_max}

-- a machine holds no more overhead frames than it asked for
pub held_most : (v : Vm) (state : VmState) → FitsState v state → length v.overhead ≤ v.spec.overhead
held_most v Starting fits = omega (arith, fits.0)
held_most v Running fits = omega (arith, fits)
held_most v Stopping fits = fits.0

abbrev stopped : Vm → Vm
stopped v = record v { state = Stopping; period = None }

stop_becomes : (c : Config) (v : Vm) → IsVm c v → Becomes c v (stopped v)
stop_becomes c v fine = record {
  fine = record {
    good = fine.good;
    pages = fine.pages;
    least_target = fine.least_target;
    most_target = fine.most_target;
    state = (held_most v v.state fine.state, refl);
    places = fine.places;
    out = fine.out;
    lends = fine.lends;
    closed = fine.closed;
    period = tt;
  };
  memory = refl;
  swap = refl;
}

pub stop_sound : (c : Config) (s : Site) (n : ℕ) (r : Answer × Site) → IsSound c s → stop s n ≡ Ok r → IsSound c r.1
unfolding stop
stop_sound c s n r sound h =
    let m = of_vm (vm_at s n) _ r h in
    let v = m.vm in
    let pass = passed (stop_gate (standing v)) _ r m.then in
    gives c answers.Done (with_vm s n (stopped v)) r pass.1 (row_only c s n v (stopped v) sound m.there (stop_becomes c v (sound.each n v m.there)) refl refl)

pub past_stop : (v : Vm) → v.state ≡ Stopping → v.state ≢ Starting
past_stop v stopping e = (let d : Stopping ≡ Starting = sym stopping ∙ e in cc)

pub drop_page_sound : (c : Config) (s : Site) (n page : ℕ) (r : Answer × Site) → IsSound c s → drop_page s n page ≡ Ok r → IsSound c r.1
unfolding drop_page
drop_page_sound c s n page r sound h =
    let m = of_vm (vm_at s n) _ r h in
    let v = m.vm in
    let pass = passed (drop_gate (standing v) page (is_here (place_at v page) || is_out (place_at v page))) _ r m.then in
    let fine = sound.each n v m.there in
    let below = below_max v.spec.max page pass.0.1.0 in
    let within : page < length v.places = omega (arith, fine.pages) in
    gives c answers.Done (placed s n page Untouched) r pass.1
    (placed_sound c s n page v Untouched sound m.there below (past_stop v (stops v.state (not_not _ pass.0.0))) tt (not_out c v page Untouched fine within refl)
    (not_lent c v page Untouched fine within refl) (room_nowhere c s (place_at v page)))
