-- The tables of a site after an access, and after one page took the place of another.
use Rattle.std.proofs.Common.{◌≡◌, ℕ, ◌<◌, Bool, true, false, not, List, length, set, refl, sym, ap, ◌∙◌, subst, arith, Option, Some}
use Rattle.std.proofs.lemmas.List.{get_or-set_other}
use Rattle.esx_types.specs.declared.config.Config.{Config}
use Rattle.esx_types.specs.declared.table.FrameRow.TheVariants as frames
use Rattle.esx_types.specs.declared.vm.VmState.TheVariants.{Running}
use Rattle.esx_model.specs.declared.scene.Place.{Place}
use Rattle.esx_model.specs.declared.scene.Place.TheVariants.{Untouched, Here, Out, Lent}
use Rattle.esx_model.specs.declared.scene.Vm.{Vm}
use Rattle.esx_model.specs.declared.scene.Site.{Site}
use Rattle.esx_model.specs.declared.book.VmRow.{VmRow}
use Rattle.esx_model.specs.declared.tables.Tables.{Tables}
use Rattle.esx_model.specs.Places.{is_private}
use Rattle.esx_model.specs.Site.{vm_at, with_vm, place_at, place_in, place_of}
use Rattle.esx_model.specs.Hints.{with_place, with_change, placed}
use Rattle.esx_model.specs.Tables.{vm_table, tables_of}
use Rattle.esx_model.specs.Moved.{put_vm, left, joined}
use Rattle.esx_model.specs.event.Balloon.{popped}
use Rattle.esx_model.specs.event.Sampling.{counted}
use Rattle.esx_model.specs.event.Access.{after_access}
use Rattle.esx_model.specs.sound.Machines.{IsPlace}
use Rattle.esx_model.specs.sound.Sound.{IsSound}
use Rattle.esx_model.proofs.Lists.{set_again}
use Rattle.esx_model.proofs.Machines.{not_out, not_lent, old_place}
use Rattle.esx_model.proofs.Kept.{row_only, placed_sound, places_same, overhead_same, vm_there, vm_placed_there, with_change_is}
use Rattle.esx_model.proofs.Rooms.{Room, room_same, room_nowhere}
use Rattle.esx_model.proofs.Shown.{row_only_shown}
use Rattle.esx_model.proofs.Placed.{placed_shown, written_shown}
use Rattle.std.proofs.lemmas.List.{set_comm}
use Rattle.std.proofs.lemmas.Bool.{false≢true}
use Rattle.esx_model.proofs.HintsKept.{no_hint}
use Rattle.esx_model.proofs.event.Balloon.{popped_becomes, past_start}
use Rattle.esx_model.proofs.event.Replacing.{Trades, other_pages, by_steps, steps_same, private_is_here}
use Rattle.esx_model.proofs.event.Sampling.{counted_kept}

-- A machine's row is beside what a page leaves and where it comes.

pub left_put : (p : Place) (b : Tables) (n : ℕ) (o : Option VmRow) → left p (put_vm b n o) ≡ put_vm (left p b) n o
left_put Untouched b n o = refl
left_put (Here bytes f shared) b n o = refl
left_put (Out bytes i) b n o = refl
left_put (Lent e) b n o = refl

pub joined_put : (q : Place) (b : Tables) (n : ℕ) (o : Option VmRow) → joined q (put_vm b n o) ≡ put_vm (joined q b) n o
joined_put Untouched b n o = refl
joined_put (Here bytes f shared) b n o = refl
joined_put (Out bytes i) b n o = refl
joined_put (Lent e) b n o = refl

pub put_twice : (b : Tables) (n : ℕ) (o row : Option VmRow) → put_vm (put_vm b n o) n row ≡ put_vm b n row
put_twice b n o row = ap (λ (vms : List (Option VmRow)). record b { vms = vms }) (set_again b.vms n o row)

-- a page that leaves and comes, where its machine's row was changed before
moved_put : (p q : Place) (b : Tables) (n : ℕ) (o row : Option VmRow) → put_vm (joined q (left p (put_vm b n o))) n row ≡ put_vm (joined q (left p b)) n row
moved_put p q b n o row =
    ap (λ t. put_vm (joined q t) n row) (left_put p b n o) ∙ ap (λ t. put_vm t n row) (joined_put q (left p b) n o) ∙ put_twice (joined q (left p b)) n o row

-- An access that brings a page to a frame, or finds it shared.
pub access_shown : (c : Config) (s : Site) (n page : ℕ) (v : Vm) (bytes : List ℕ) (f : ℕ) (shared : Bool) → IsSound c s → vm_at s n ≡ Some v → v.state ≡ Running → page < v.spec.max
    → f < c.frames → length bytes ≡ c.page → Room c s (place_at v page) (Here bytes f shared) → (shared ≡ false → is_private (place_at v page) ≡ false)
    → tables_of c (after_access s n page (Here bytes f shared))
    ≡ put_vm (joined (Here bytes f shared) (left (place_at v page) (tables_of c s))) n (Some (vm_table (counted page (with_place page (Here bytes f shared) (popped page v)))))
access_shown c s n page v bytes f shared sound there running below frame whole room fresh =
    let q : Place = Here bytes f shared in
    let p = place_at v page in
    let v1 = popped page v in
    let s1 = with_vm s n v1 in
    let sound1 = row_only c s n v v1 sound there (popped_becomes c v page (sound.each n v there)) refl refl in
    let there1 = vm_there s n v v1 there in
    let fine1 = sound1.each n v1 there1 in
    let within : page < length v1.places = omega (arith, fine1.pages) in
    let room1 = room_same c s s1 p q (places_same s n v v1 s.hints there refl) (overhead_same s n v v1 s.hints there refl) room in
    let sound2 = placed_sound c s1 n page v1 q sound1 there1 below (past_start v1 running) (frame, whole) (not_out c v1 page q fine1 within refl) (not_lent c v1 page q fine1 within refl) room1 in
    let s2 = placed s1 n page q in
    let v2 = with_place page q v1 in
    let there2 = vm_placed_there s1 n page v1 q there1 in
    let kept = counted_kept c v2 page (sound2.each n v2 there2) running below in
    let row : Option VmRow = Some (vm_table (counted page v2)) in
    ap (λ t. tables_of c (with_change (placed t n page q) n (counted page))) (with_change_is s n v (popped page) there)
    ∙ ap (tables_of c) (with_change_is s2 n v2 (counted page) there2)
    ∙ row_only_shown c s2 n v2 (counted page v2) there2 kept.places kept.overhead
    ∙ ap (λ (t : Tables). put_vm t n row) (placed_shown c s1 n page v1 q sound1 there1 below (past_start v1 running) (frame, whole) room1 (λ e. fresh (is_false shared e)))
    ∙ put_twice (joined q (left p (tables_of c s1))) n (Some (vm_table v2)) row
    ∙ ap (λ (t : Tables). put_vm (joined q (left p t)) n row) (row_only_shown c s n v v1 there refl refl)
    ∙ moved_put p q (tables_of c s) n (Some (vm_table v1)) row
  where
    is_false : (b : Bool) → not b ≡ true → b ≡ false
    is_false true e = cc
    is_false false e = refl

-- An access to a page that is private in a frame.
pub access_in_place_shown : (c : Config) (s : Site) (n page : ℕ) (v : Vm) (old : List ℕ) (f : ℕ) (new : List ℕ) → IsSound c s → vm_at s n ≡ Some v → v.state ≡ Running → page < v.spec.max
    → place_at v page ≡ Here old f false → length new ≡ c.page → Room c s (Here old f false) (Here new f false)
    → tables_of c (after_access s n page (Here new f false))
    ≡ put_vm (record (tables_of c s) { frames = set (tables_of c s).frames f (frames.Private new) }) n (Some (vm_table (counted page (with_place page (Here new f false) (popped page v)))))
access_in_place_shown c s n page v old f new sound there running below was whole room =
    let q : Place = Here new f false in
    let v1 = popped page v in
    let s1 = with_vm s n v1 in
    let fine = sound.each n v there in
    let sound1 = row_only c s n v v1 sound there (popped_becomes c v page fine) refl refl in
    let there1 = vm_there s n v v1 there in
    let fine1 = sound1.each n v1 there1 in
    let within : page < length v1.places = omega (arith, fine1.pages) in
    let P : Place → Type 0 = IsPlace c v.epoch in
    let place : IsPlace c v.epoch (Here old f false) = subst P was (old_place c v page fine within) in
    let Q : Place → Type 0 = λ x. Room c s1 x q in
    let room1 = subst Q (sym was) (room_same c s s1 (Here old f false) q (places_same s n v v1 s.hints there refl) (overhead_same s n v v1 s.hints there refl) room) in
    let sound2 = placed_sound c s1 n page v1 q sound1 there1 below (past_start v1 running) (place.0, whole) (not_out c v1 page q fine1 within refl) (not_lent c v1 page q fine1 within refl) room1 in
    let s2 = placed s1 n page q in
    let v2 = with_place page q v1 in
    let there2 = vm_placed_there s1 n page v1 q there1 in
    let kept = counted_kept c v2 page (sound2.each n v2 there2) running below in
    let row : Option VmRow = Some (vm_table (counted page v2)) in
    ap (λ t. tables_of c (with_change (placed t n page q) n (counted page))) (with_change_is s n v (popped page) there)
    ∙ ap (tables_of c) (with_change_is s2 n v2 (counted page) there2)
    ∙ row_only_shown c s2 n v2 (counted page v2) there2 kept.places kept.overhead
    ∙ ap (λ (t : Tables). put_vm t n row) (written_shown c s1 n page v1 old f new sound1 there1 below was)
    ∙ put_twice (record (tables_of c s1) { frames = set (tables_of c s1).frames f (frames.Private new) }) n (Some (vm_table v2)) row
    ∙ ap (λ (t : Tables). put_vm (record t { frames = set t.frames f (frames.Private new) }) n row) (row_only_shown c s n v v1 there refl refl)
    ∙ put_twice (record (tables_of c s) { frames = set (tables_of c s).frames f (frames.Private new) }) n (Some (vm_table v1)) row

-- A page goes out, and another of its machine comes into the frame that it left.
pub traded_shown : (c : Config) (s : Site) (n page q : ℕ) (v : Vm) (bytes : List ℕ) (f : ℕ) (shared : Bool) (i : ℕ) (new : List ℕ) → Trades c s n page q v bytes f shared i → length new ≡ c.page
    → tables_of c (placed (placed s n q (Out bytes i)) n page (Here new f false))
    ≡ put_vm (joined (Here new f false) (joined (Out bytes i) (left (Here bytes f shared) (left (place_at v page) (tables_of c s))))) n (Some (vm_table (with_place page (Here new f false) (with_place q (Out bytes i) v))))
traded_shown c s n page q v bytes f shared i new t whole =
    let steps = by_steps c s n page q v bytes f shared i new t whole in
    let past = past_start v t.running in
    let p = place_at v page in
    let o : Place = Out bytes i in
    let h : Place = Here new f false in
    let a = placed s n page Untouched in
    let b = placed a n q o in
    let va = with_place page Untouched v in
    let vb = with_place q o va in
    let vd = with_place page h vb in
    let fine = t.sound.each n v t.there in
    let apart = other_pages c s n page q v bytes f shared i t in
    let gone : is_private (place_of s n page) ≡ false = ap (λ o. is_private (place_in o page)) t.there ∙ private_is_here p t.away in
    let same = steps_same s n page q v o h t.there (λ e. apart (sym e)) refl (no_hint (place_of s) n page s.hints t.sound.hints gone) in
    let at_q : place_at va q ≡ Here bytes f shared = get_or-set_other v.places page q Untouched Untouched apart ∙ t.was in
    let first : tables_of c a ≡ put_vm (left p (tables_of c s)) n (Some (vm_table va)) = placed_shown c s n page v Untouched t.sound t.there t.below past tt (room_nowhere c s p) (λ e. absurd (false≢true e)) in
    let second : tables_of c b ≡ put_vm (joined o (left (place_at va q) (tables_of c a))) n (Some (vm_table vb)) =
    placed_shown c a n q va o steps.left_sound steps.left_there (let w = t.within in omega (arith, fine.pages, w)) past steps.out_place steps.out_room (λ e. absurd (false≢true e)) in
    let third : tables_of c (placed b n page h) ≡ put_vm (joined h (left (place_at vb page) (tables_of c b))) n (Some (vm_table vd)) =
    placed_shown c b n page vb h steps.out_sound steps.out_there t.below past steps.in_place steps.in_room (λ e. ap is_private steps.nowhere) in
    let row : Option VmRow = Some (vm_table vd) in
    let rest = left (Here bytes f shared) (left p (tables_of c s)) in
    let places : vd.places ≡ set (set v.places q o) page h =
    ap (λ (xs : List Place). set xs page h) (set_comm v.places page q Untouched o (λ e. apart (sym e))) ∙ set_again (set v.places q o) page Untouched h in
    ap (tables_of c) (sym same) ∙ third
    ∙ ap (λ x. put_vm (joined h (left x (tables_of c b))) n row) steps.nowhere
    ∙ ap (λ (x : Tables). put_vm (joined h x) n row) second
    ∙ ap (λ x. put_vm (joined h (put_vm (joined o (left x (tables_of c a))) n (Some (vm_table vb)))) n row) at_q
    ∙ ap (λ (x : Tables). put_vm (joined h (put_vm (joined o (left (Here bytes f shared) x)) n (Some (vm_table vb)))) n row) first
    ∙ ap (λ (x : Tables). put_vm x n row) (joined_put h (joined o (left (Here bytes f shared) (put_vm (left p (tables_of c s)) n (Some (vm_table va))))) n (Some (vm_table vb)))
    ∙ put_twice (joined h (joined o (left (Here bytes f shared) (put_vm (left p (tables_of c s)) n (Some (vm_table va)))))) n (Some (vm_table vb)) row
    ∙ ap (λ (x : Tables). put_vm (joined h (joined o x)) n row) (left_put (Here bytes f shared) (left p (tables_of c s)) n (Some (vm_table va)))
    ∙ ap (λ (x : Tables). put_vm (joined h x) n row) (joined_put o rest n (Some (vm_table va)))
    ∙ ap (λ (x : Tables). put_vm x n row) (joined_put h (joined o rest) n (Some (vm_table va)))
    ∙ put_twice (joined h (joined o rest)) n (Some (vm_table va)) row
    ∙ ap (λ (xs : List Place). put_vm (joined h (joined o rest)) n (Some (vm_table (record v { places = xs })))) places
