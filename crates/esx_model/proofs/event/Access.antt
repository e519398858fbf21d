-- Reads and writes keep a site sound.
use Rattle.std.proofs.Common.{◌≡◌, ℕ, ◌+◌, ◌≤◌, ◌<◌, Bool, true, false, ◌&&◌, nat_le, nat_lt, List, length, take, drop, refl, sym, subst, arith, Option, Some, None, Ok, inl, inr, ◌==◌}
use Rattle.std.proofs.lemmas.List.{length-replicate}
use Rattle.std.proofs.lemmas.Bool.Decides.{nat_tests}
use Rattle.std.proofs.lemmas.Grind.{common_steps}
use Rattle.esx_types.specs.declared.config.Config.{Config}
use Rattle.esx_types.specs.declared.level.Level.{Level}
use Rattle.esx_types.specs.declared.vm.VmState.TheVariants.{Running}
use Rattle.esx_events.specs.declared.event.Answer.{Answer}
use Rattle.esx_events.specs.declared.event.Answer.TheVariants as answers
use Rattle.esx_model.specs.declared.scene.Place.{Place}
use Rattle.esx_model.specs.declared.scene.Place.TheVariants.{Untouched, Here, Out, Lent}
use Rattle.esx_model.specs.declared.scene.Vm.{Vm}
use Rattle.esx_model.specs.declared.scene.Site.{Site}
use Rattle.esx_model.specs.Places.{is_shared, contents, zeros}
use Rattle.esx_model.specs.Site.{vm_at, with_vm, place_at, pages_at, least_free, all_places, all_overhead}
use Rattle.esx_model.specs.Show.{pages_in}
use Rattle.esx_model.specs.Hints.{with_place, with_change, placed}
use Rattle.esx_model.specs.event.Outcome.{standing}
use Rattle.esx_model.specs.event.Balloon.{popped}
use Rattle.esx_model.specs.event.Sampling.{counted}
use Rattle.esx_model.specs.event.Access.{access_gate, overwritten, read_frame, write_frame, after_access, settle, read, write}
use Rattle.esx_model.specs.sound.Machines.{IsPlace}
use Rattle.esx_model.specs.sound.Sound.{IsSound}
use Rattle.esx_model.proofs.Lists.{chosen, or_false}
use Rattle.esx_model.proofs.Machines.{not_out, not_lent, old_place}
use Rattle.esx_model.proofs.Kept.{row_only, placed_sound, places_same, overhead_same, vm_there, vm_placed_there, with_change_is, page_is_in}
use Rattle.esx_model.proofs.Rooms.{Room, room_same, room_free, room_alone, room_again, least_unused, row_here, private_alone, pages_at_is, IsIn}
use Rattle.esx_model.proofs.Gates.{of_vm, passed, gives, accepted, not_not, runs}
use Rattle.esx_model.proofs.event.Balloon.{popped_becomes, past_start, below_max}
use Rattle.esx_model.proofs.event.Sampling.{counted_kept}

-- a page comes to a frame, and the access is counted
pub access_kept : (c : Config) (s : Site) (n page : ℕ) (v : Vm) (bytes : List ℕ) (f : ℕ) (shared : Bool) → IsSound c s → vm_at s n ≡ Some v → v.state ≡ Running → page < v.spec.max
    → f < c.frames → length bytes ≡ c.page → Room c s (place_at v page) (Here bytes f shared) → IsSound c (after_access s n page (Here bytes f shared))
access_kept c s n page v bytes f shared sound there running below frame whole room =
    let q : Place = Here bytes f shared in
    let v1 = popped page v in
    let s1 = with_vm s n v1 in
    let sound1 = row_only c s n v v1 sound there (popped_becomes c v page (sound.each n v there)) refl refl in
    let there1 = vm_there s n v v1 there in
    let fine1 = sound1.each n v1 there1 in
    let within : page < length v1.places = omega (arith, fine1.pages) in
    let sound2 = placed_sound c s1 n page v1 q sound1 there1 below (past_start v1 running) (frame, whole) (not_out c v1 page q fine1 within refl) (not_lent c v1 page q fine1 within refl)
    (room_same c s s1 (place_at v page) q (places_same s n v v1 s.hints there refl) (overhead_same s n v v1 s.hints there refl) room) in
    let s2 = placed s1 n page q in
    let v2 = with_place page q v1 in
    let there2 = vm_placed_there s1 n page v1 q there1 in
    let kept = counted_kept c v2 page (sound2.each n v2 there2) running below in
    let P : Site → Type 0 = IsSound c in
    let Q : Site → Type 0 = λ t. IsSound c (with_change (placed t n page q) n (counted page)) in
    subst Q (sym (with_change_is s n v (popped page) there))
    (subst P (sym (with_change_is s2 n v2 (counted page) there2)) (row_only c s2 n v2 (counted page v2) sound2 there2 kept.becomes kept.places kept.overhead))

-- a frame was found
pub settled : (s : Site) (n page : ℕ) (a : Answer) (bytes : List ℕ) (shared : Bool) (o : Option ℕ) (r : Answer × Site) → settle s n page a bytes shared o ≡ Ok r
    → (f : ℕ) × (o ≡ Some f) × (accepted a (after_access s n page (Here bytes f shared)) ≡ Ok r)
settled s n page a bytes shared None r h = cc
settled s n page a bytes shared (Some f) r h = (f, refl, h)

pub whole_page : (c : Config) (e : ℕ) (p : Place) → IsPlace c e p → length (contents c p) ≡ c.page
whole_page c e Untouched h = length-replicate c.page 0
whole_page c e (Here bytes f shared) h = h.1
whole_page c e (Out bytes i) h = h.1
whole_page c e (Lent d) h = length-replicate c.page 0

some_is : (f g : ℕ) → Some f ≡ Some g → f ≡ g
some_is f g h = cc

pub read_room : (c : Config) (s : Site) (n page : ℕ) (v : Vm) (p : Place) (f : ℕ) → IsSound c s → vm_at s n ≡ Some v → page < length v.places → place_at v page ≡ p → read_frame c s p ≡ Some f
    → (f < c.frames) × Room c s p (Here (contents c p) f (is_shared p))
read_room c s n page v Untouched f sound there within was found = ((least_unused c.frames s f found).below, room_free c s Untouched (zeros c) f found)
read_room c s n page v (Out bytes i) f sound there within was found = ((least_unused c.frames s f found).below, room_free c s (Out bytes i) bytes f found)
read_room c s n page v (Lent e) f sound there within was found = ((least_unused c.frames s f found).below, room_free c s (Lent e) (zeros c) f found)
read_room c s n page v (Here bytes g shared) f sound there within was found =
    let P : Place → Type 0 = IsPlace c v.epoch in
    let Q : Place → Type 0 = IsIn (all_places s) in
    let R : ℕ → Type 0 = λ k. (k < c.frames) × Room c s (Here bytes g shared) (Here bytes k shared) in
    let place : IsPlace c v.epoch (Here bytes g shared) = subst P was (old_place c v page (sound.each n v there) within) in
    subst R (some_is g f found) (place.0, room_again c s bytes g shared sound.frames (subst Q was (page_is_in s n page v there within)))

pub read_sound : (c : Config) (s : Site) (level : Level) (n page at len : ℕ) (r : Answer × Site) → IsSound c s → read c s level n page at len ≡ Ok r → IsSound c r.1
unfolding read
read_sound c s level n page at len r sound h =
    let m = of_vm (vm_at s n) _ r h in
    let v = m.vm in
    let pass = passed (access_gate c level (standing v) page at len) _ r m.then in
    let p = place_at v page in
    let done = settled s n page (answers.Bytes (take len (drop at (contents c p)))) (contents c p) (is_shared p) (read_frame c s p) r pass.1 in
    let fine = sound.each n v m.there in
    let below = below_max v.spec.max page (or_false (nat_le v.spec.max page) (len == 0) (or_false _ (nat_lt c.page (at + len)) pass.0.1.0).0).0 in
    let within : page < length v.places = omega (arith, fine.pages) in
    let room = read_room c s n page v p done.0 sound m.there within refl done.1 in
    gives c (answers.Bytes (take len (drop at (contents c p)))) (after_access s n page (Here (contents c p) done.0 (is_shared p))) r done.2
    (access_kept c s n page v (contents c p) done.0 (is_shared p) sound m.there (runs v.state (not_not _ pass.0.0)) below room.0 (whole_page c v.epoch p (old_place c v page fine within)) room.1)

written_whole : (old : List ℕ) (at : ℕ) (new : List ℕ) (page : ℕ) → length old ≡ page → nat_lt page (at + length new) ≡ false → length (overwritten old at new) ≡ page
written_whole old at new page h k = of (fits page (at + length new) k)
  where
    fits : (p e : ℕ) → nat_lt p e ≡ false → e ≤ p
    fits p e k = grind (arith, nat_tests)

    of : at + length new ≤ page → length (overwritten old at new) ≡ page
    of small = grind (arith, common_steps)

one_at_most : (n : ℕ) → nat_lt 1 n ≡ false → n ≤ 1
one_at_most n h = grind (arith, nat_tests)

-- a frame that only one page uses
alone_or_few : (c : Config) (s : Site) (bytes : List ℕ) (g : ℕ) (shared : Bool) → IsSound c s → IsIn (all_places s) (Here bytes g shared) → (shared && nat_lt 1 (pages_at g s)) ≡ false → length (pages_in s g) ≤ 1
alone_or_few c s bytes g false sound i h = private_alone c.frames (all_places s) (all_overhead s) bytes g sound.frames i
alone_or_few c s bytes g true sound i h = (let few = one_at_most (pages_at g s) h in let same = pages_at_is g s in omega arith)

pub write_room : (c : Config) (s : Site) (n page : ℕ) (v : Vm) (p : Place) (new : List ℕ) (f : ℕ) → IsSound c s → vm_at s n ≡ Some v → page < length v.places → place_at v page ≡ p → write_frame c s p ≡ Some f
    → (f < c.frames) × Room c s p (Here new f false)
write_room c s n page v Untouched new f sound there within was found = ((least_unused c.frames s f found).below, room_free c s Untouched new f found)
write_room c s n page v (Out bytes i) new f sound there within was found = ((least_unused c.frames s f found).below, room_free c s (Out bytes i) new f found)
write_room c s n page v (Lent e) new f sound there within was found = ((least_unused c.frames s f found).below, room_free c s (Lent e) new f found)
write_room c s n page v (Here bytes g shared) new f sound there within was found =
    let P : Place → Type 0 = IsPlace c v.epoch in
    let Q : Place → Type 0 = IsIn (all_places s) in
    let R : ℕ → Type 0 = λ k. (k < c.frames) × Room c s (Here bytes g shared) (Here new k false) in
    let place : IsPlace c v.epoch (Here bytes g shared) = subst P was (old_place c v page (sound.each n v there) within) in
    let i : IsIn (all_places s) (Here bytes g shared) = subst Q was (page_is_in s n page v there within) in
    elim (chosen (shared && nat_lt 1 (pages_at g s)) (least_free c.frames s) (Some g) (Some f) found) [
      | inl w ↦ ((least_unused c.frames s f w.1).below, room_free c s (Here bytes g shared) new f w.1)
      | inr w ↦ subst R (some_is g f w.1) (place.0, room_alone c s bytes g shared new (alone_or_few c s bytes g shared sound i w.0) (row_here c.frames (all_places s) (all_overhead s) bytes g shared sound.frames i).1)
    ]

pub write_sound : (c : Config) (s : Site) (level : Level) (n page at : ℕ) (new : List ℕ) (r : Answer × Site) → IsSound c s → write c s level n page at new ≡ Ok r → IsSound c r.1
unfolding write
write_sound c s level n page at new r sound h =
    let m = of_vm (vm_at s n) _ r h in
    let v = m.vm in
    let pass = passed (access_gate c level (standing v) page at (length new)) _ r m.then in
    let p = place_at v page in
    let bytes = overwritten (contents c p) at new in
    let done = settled s n page answers.Done bytes false (write_frame c s p) r pass.1 in
    let fine = sound.each n v m.there in
    let ranges = or_false _ (nat_lt c.page (at + length new)) pass.0.1.0 in
    let below = below_max v.spec.max page (or_false (nat_le v.spec.max page) (length new == 0) ranges.0).0 in
    let within : page < length v.places = omega (arith, fine.pages) in
    let room = write_room c s n page v p bytes done.0 sound m.there within refl done.1 in
    gives c answers.Done (after_access s n page (Here bytes done.0 false)) r done.2
    (access_kept c s n page v bytes done.0 false sound m.there (runs v.state (not_not _ pass.0.0)) below room.0
    (written_whole (contents c p) at new c.page (whole_page c v.epoch p (old_place c v page fine within)) ranges.1) room.1)
