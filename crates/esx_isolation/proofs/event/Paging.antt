-- A page that goes out keeps its bytes.
use Rattle.std.proofs.Common.{◌≡◌, ℕ, true, refl, subst, Option, Some, None, Ok}
use Rattle.esx_types.specs.declared.config.Config.{Config}
use Rattle.esx_types.specs.declared.level.Level.{Level}
use Rattle.esx_events.specs.declared.event.Answer.{Answer}
use Rattle.esx_events.specs.declared.event.Answer.TheVariants as answers
use Rattle.esx_model.specs.declared.look.Look.{Look}
use Rattle.esx_model.specs.declared.look.Look.TheVariants.{Already, SharedFrame, OtherPage, Changed, OtherBytes, Nothing}
use Rattle.esx_model.specs.declared.scene.Place.{Place}
use Rattle.esx_model.specs.declared.scene.Place.TheVariants.{Out}
use Rattle.esx_model.specs.declared.scene.Vm.{Vm}
use Rattle.esx_model.specs.declared.scene.Site.{Site}
use Rattle.esx_model.specs.Places.{is_here, contents}
use Rattle.esx_model.specs.Site.{vm_at, place_at, least_slot}
use Rattle.esx_model.specs.Hints.{placed}
use Rattle.esx_model.specs.event.Outcome.{standing}
use Rattle.esx_model.specs.event.Sharing.{look, after_look}
use Rattle.esx_model.specs.event.Paging.{victim, swap_out_gate, to_slot, leave_by, leave, swap_out}
use Rattle.esx_model.specs.sound.Sound.{IsSound}
use Rattle.esx_model.proofs.Callers.{of_vm, passed, same_site, drawn_is_here}
use Rattle.esx_isolation.proofs.Turns.{Keeps, Turns, keeps_placed, turns_none, out_cell}
use Rattle.esx_isolation.proofs.event.Sharing.{look_keeps}

slot_keeps : (c : Config) (s : Site) (n page : ℕ) (v : Vm) (o : Option ℕ) (r : Answer × Site) → vm_at s n ≡ Some v → is_here (place_at v page) ≡ true → to_slot s n page (contents c (place_at v page)) o ≡ Ok r → Keeps c s r.1
slot_keeps c s n page v None r there here h = cc
slot_keeps c s n page v (Some i) r there here h =
    let q : Place = Out (contents c (place_at v page)) i in
    let P : Site → Type 0 = Keeps c s in
    subst P (same_site (answers.PagedOut page i) (placed s n page q) r h) (keeps_placed c s n page v q there (out_cell c (place_at v page) i here))

leave_keeps_by : (c : Config) (s : Site) (n page : ℕ) (v : Vm) (l : Look) (r : Answer × Site) → vm_at s n ≡ Some v → is_here (place_at v page) ≡ true
    → Keeps c s (after_look s n page (contents c (place_at v page)) l) → leave_by c s n page (contents c (place_at v page)) l ≡ Ok r → Keeps c s r.1
leave_keeps_by c s n page v Already r there here keeps h = slot_keeps c s n page v (least_slot c.slots s) r there here h
leave_keeps_by c s n page v (SharedFrame f) r there here keeps h =
    let P : Site → Type 0 = Keeps c s in
    subst P (same_site (answers.SharedOut page f) (after_look s n page (contents c (place_at v page)) (SharedFrame f)) r h) keeps
leave_keeps_by c s n page v (OtherPage m q f) r there here keeps h =
    let P : Site → Type 0 = Keeps c s in
    subst P (same_site (answers.SharedOut page f) (after_look s n page (contents c (place_at v page)) (OtherPage m q f)) r h) keeps
leave_keeps_by c s n page v Changed r there here keeps h = slot_keeps c s n page v (least_slot c.slots s) r there here h
leave_keeps_by c s n page v OtherBytes r there here keeps h = slot_keeps c s n page v (least_slot c.slots s) r there here h
leave_keeps_by c s n page v Nothing r there here keeps h = slot_keeps c s n page v (least_slot c.slots s) r there here h

leave_keeps : (c : Config) (s : Site) (n : ℕ) (v : Vm) (word : ℕ) (o : Option ℕ) (r : Answer × Site) → IsSound c s → vm_at s n ≡ Some v → victim v word ≡ o → leave c s n v o ≡ Ok r → Keeps c s r.1
leave_keeps c s n v word None r sound there drawn h = cc
leave_keeps c s n v word (Some page) r sound there drawn h =
    let here = (drawn_is_here v word page drawn).1 in
    leave_keeps_by c s n page v (look s n page (place_at v page)) r there here (look_keeps c s n page v sound there here) h

pub swap_out_turns : (c : Config) (s : Site) (level : Level) (n word : ℕ) (r : Answer × Site) → IsSound c s → swap_out c s level n word ≡ Ok r → Turns c s n (λ o. o) r.1
unfolding swap_out
swap_out_turns c s level n word r sound h =
    let own = of_vm (vm_at s n) _ r h in
    let v = own.vm in
    let pass = passed (swap_out_gate level (standing v)) _ r own.then in
    turns_none c s r.1 n (leave_keeps c s n v word (victim v word) r sound own.there refl pass.1)
