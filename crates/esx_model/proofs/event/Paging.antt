-- Pages that go out, and pages that take the place of others, keep a site sound.
use Rattle.std.proofs.Common.{◌≡◌, ℕ, ◌-◌, ◌≤◌, ◌<◌, true, false, List, length, refl, arith, Option, Some, None, Ok}
use Rattle.esx_types.specs.declared.config.Config.{Config}
use Rattle.esx_types.specs.declared.level.Level.{Level}
use Rattle.esx_events.specs.declared.event.Answer.{Answer}
use Rattle.esx_events.specs.declared.event.Answer.TheVariants as answers
use Rattle.esx_model.specs.declared.look.Look.{Look}
use Rattle.esx_model.specs.declared.look.Look.TheVariants.{Already, SharedFrame, OtherPage, Changed, OtherBytes, Nothing}
use Rattle.esx_model.specs.declared.scene.Place.{Place}
use Rattle.esx_model.specs.declared.scene.Place.TheVariants.{Untouched, Here, Out, Lent}
use Rattle.esx_model.specs.declared.scene.Vm.{Vm}
use Rattle.esx_model.specs.declared.scene.Site.{Site}
use Rattle.esx_model.specs.Places.{is_here, is_out, contents}
use Rattle.esx_model.specs.Site.{vm_at, place_at, resident, paged_out, least_slot}
use Rattle.esx_model.specs.Hints.{with_place, placed}
use Rattle.esx_model.specs.event.Outcome.{standing}
use Rattle.esx_model.specs.event.Sharing.{look, after_look}
use Rattle.esx_model.specs.event.Paging.{victim, swap_out_gate, to_slot, leave_by, leave, swap_out}
use Rattle.esx_model.specs.sound.Machines.{IsVm, IsPlace}
use Rattle.esx_model.specs.sound.Sound.{IsSound}
use Rattle.esx_model.proofs.Machines.{not_lent, old_place, out_placed, apart_counts, drawn_is_here}
use Rattle.esx_model.proofs.Kept.{placed_sound}
use Rattle.esx_model.proofs.Rooms.{slot_unused, room_slot}
use Rattle.esx_model.proofs.Gates.{of_vm, passed, gives}
use Rattle.esx_model.proofs.event.Balloon.{below_max}
use Rattle.esx_model.proofs.event.Sharing.{here_past, look_sound}

-- A page goes out.

not_out_yet : (p : Place) → is_here p ≡ true → is_out p ≡ false
not_out_yet Untouched h = refl
not_out_yet (Here bytes f shared) h = refl
not_out_yet (Out bytes i) h = cc
not_out_yet (Lent e) h = refl

out_more : (c : Config) (v : Vm) (page : ℕ) (bytes : List ℕ) (i : ℕ) → IsVm c v → page < length v.places → v.spec.min < resident v → paged_out (with_place page (Out bytes i) v) ≤ v.spec.max - v.spec.min
out_more c v page bytes i fine within above =
    let counts = out_placed v page (Out bytes i) within in
    let apart = apart_counts v.places in
    omega (arith, counts, apart, fine.pages, above)

bytes_here : (c : Config) (e : ℕ) (p : Place) → IsPlace c e p → is_here p ≡ true → length (contents c p) ≡ c.page
bytes_here c e Untouched h k = cc
bytes_here c e (Here bytes f shared) h k = h.1
bytes_here c e (Out bytes i) h k = cc
bytes_here c e (Lent d) h k = cc

slot_sound : (c : Config) (s : Site) (n page : ℕ) (v : Vm) (bytes : List ℕ) (o : Option ℕ) (r : Answer × Site) → IsSound c s → vm_at s n ≡ Some v → page < length v.places → is_here (place_at v page) ≡ true
    → v.spec.min < resident v → length bytes ≡ c.page → least_slot c.slots s ≡ o → to_slot s n page bytes o ≡ Ok r → IsSound c r.1
slot_sound c s n page v bytes None r sound there within here above whole found h = cc
slot_sound c s n page v bytes (Some i) r sound there within here above whole found h =
    let fine = sound.each n v there in
    gives c (answers.PagedOut page i) (placed s n page (Out bytes i)) r h
    (placed_sound c s n page v (Out bytes i) sound there (omega (arith, fine.pages, within)) (here_past c v page fine here) ((slot_unused c.slots s i found).0, whole)
    (out_more c v page bytes i fine within above) (not_lent c v page (Out bytes i) fine within refl) (room_slot c s (place_at v page) bytes i found))

left_by_look : (c : Config) (s : Site) (n page : ℕ) (v : Vm) (bytes : List ℕ) (l : Look) (r : Answer × Site) → IsSound c s → vm_at s n ≡ Some v → page < length v.places → is_here (place_at v page) ≡ true
    → v.spec.min < resident v → length bytes ≡ c.page → IsSound c (after_look s n page bytes l) → leave_by c s n page bytes l ≡ Ok r → IsSound c r.1
left_by_look c s n page v bytes Already r sound there within here above whole after h = slot_sound c s n page v bytes (least_slot c.slots s) r sound there within here above whole refl h
left_by_look c s n page v bytes (SharedFrame f) r sound there within here above whole after h = gives c (answers.SharedOut page f) (after_look s n page bytes (SharedFrame f)) r h after
left_by_look c s n page v bytes (OtherPage m q f) r sound there within here above whole after h = gives c (answers.SharedOut page f) (after_look s n page bytes (OtherPage m q f)) r h after
left_by_look c s n page v bytes Changed r sound there within here above whole after h = slot_sound c s n page v bytes (least_slot c.slots s) r sound there within here above whole refl h
left_by_look c s n page v bytes OtherBytes r sound there within here above whole after h = slot_sound c s n page v bytes (least_slot c.slots s) r sound there within here above whole refl h
left_by_look c s n page v bytes Nothing r sound there within here above whole after h = slot_sound c s n page v bytes (least_slot c.slots s) r sound there within here above whole refl h

leave_sound : (c : Config) (s : Site) (n word : ℕ) (v : Vm) (o : Option ℕ) (r : Answer × Site) → IsSound c s → vm_at s n ≡ Some v → v.spec.min < resident v → victim v word ≡ o → leave c s n v o ≡ Ok r → IsSound c r.1
leave_sound c s n word v None r sound there above drawn h = cc
leave_sound c s n word v (Some page) r sound there above drawn h =
    let fine = sound.each n v there in
    let known = drawn_is_here v word page drawn in
    let p = place_at v page in
    left_by_look c s n page v (contents c p) (look s n page p) r sound there known.0 known.1 above (bytes_here c v.epoch p (old_place c v page fine known.0) known.1)
    (look_sound c s n page v p sound there (omega (arith, fine.pages, known.0)) refl known.1) h

pub swap_out_sound : (c : Config) (s : Site) (level : Level) (n word : ℕ) (r : Answer × Site) → IsSound c s → swap_out c s level n word ≡ Ok r → IsSound c r.1
unfolding swap_out
swap_out_sound c s level n word r sound h =
    let m = of_vm (vm_at s n) _ r h in
    let v = m.vm in
    let pass = passed (swap_out_gate level (standing v)) _ r m.then in
    let fine = sound.each n v m.there in
    let above = below_max (resident v) v.target pass.0.1.0 in
    leave_sound c s n word v (victim v word) r sound m.there (omega (arith, fine.least_target, above)) refl pass.1
