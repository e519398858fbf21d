-- What a scan and a swap out lose: the page that goes to a slot. A page that comes to share a frame stays here.
use Rattle.std.proofs.Common.{◌≡◌, ℕ, true, refl, ap, ◌∙◌, subst, Option, Some, None, Ok}
use Rattle.esx_types.specs.declared.config.Config.{Config}
use Rattle.esx_types.specs.declared.level.Level.{Level}
use Rattle.esx_events.specs.declared.event.Answer.{Answer}
use Rattle.esx_events.specs.declared.event.Answer.TheVariants as answers
use Rattle.esx_events.specs.declared.event.Event.TheVariants as events
use Rattle.esx_model.specs.declared.look.Look.{Look}
use Rattle.esx_model.specs.declared.look.Look.TheVariants.{Already, SharedFrame, OtherPage, Changed, OtherBytes, Nothing}
use Rattle.esx_model.specs.declared.scene.Place.{Place}
use Rattle.esx_model.specs.declared.scene.Place.TheVariants.{Here, Out}
use Rattle.esx_model.specs.declared.scene.Vm.{Vm}
use Rattle.esx_model.specs.declared.scene.Site.{Site}
use Rattle.esx_model.specs.Places.{is_here, contents}
use Rattle.esx_model.specs.Site.{vm_at, place_at, least_slot}
use Rattle.esx_model.specs.Hints.{placed}
use Rattle.esx_model.specs.event.Outcome.{standing}
use Rattle.esx_model.specs.event.Sharing.{look, after_look, said_of, scan_gate, scan}
use Rattle.esx_model.specs.event.Paging.{victim, swap_out_gate, to_slot, leave_by, leave, swap_out}
use Rattle.esx_model.specs.sound.Sound.{IsSound}
use Rattle.esx_model.proofs.Callers.{of_vm, passed, same_site, not_not, Sees, look_sees, beside, drawn_is_here}
use Rattle.esx_story.specs.Changes.{Swap}
use Rattle.esx_story.specs.Losses.{lost}
use Rattle.esx_story.proofs.Bits.{bits, bit_in, bits_there, Keeps, has_placed, keeps_again, keeps_placed}
use Rattle.esx_story.proofs.Moves.{Moves, moves_none, moves_lost}
use Rattle.esx_story.proofs.event.Access.{outcome_is}

look_keeps_by : (c : Config) (s : Site) (n page : ℕ) (v : Vm) (l : Look) → vm_at s n ≡ Some v → is_here (place_at v page) ≡ true → Sees s n page (contents c (place_at v page)) l
    → Keeps s (after_look s n page (contents c (place_at v page)) l)
look_keeps_by c s n page v Already there here sees = λ m. refl
look_keeps_by c s n page v (SharedFrame f) there here sees = keeps_placed s n page v (Here (contents c (place_at v page)) f true) there here
look_keeps_by c s n page v (OtherPage k q f) there here sees =
    let p : Place = Here (contents c (place_at v page)) f true in
    let t = placed s k q p in
    let own = beside s k q sees.vm p n page v sees.there there sees.other in
    keeps_again s t (placed t n page p) (keeps_placed s k q sees.vm p sees.there (ap is_here sees.place)) (keeps_placed t n page own.vm p own.there (ap is_here own.place ∙ here))
look_keeps_by c s n page v Changed there here sees = λ m. refl
look_keeps_by c s n page v OtherBytes there here sees = λ m. refl
look_keeps_by c s n page v Nothing there here sees = λ m. refl

look_keeps : (c : Config) (s : Site) (n page : ℕ) (v : Vm) → IsSound c s → vm_at s n ≡ Some v → is_here (place_at v page) ≡ true
    → Keeps s (after_look s n page (contents c (place_at v page)) (look s n page (place_at v page)))
look_keeps c s n page v sound there here = look_keeps_by c s n page v (look s n page (place_at v page)) there here (look_sees c s n page (place_at v page) sound)

pub scan_moves : (c : Config) (s : Site) (n page : ℕ) (r : Answer × Site) → IsSound c s → scan c s n page ≡ Ok r → Moves s r.1 None None
unfolding scan
scan_moves c s n page r sound h =
    let own = of_vm (vm_at s n) _ r h in
    let v = own.vm in
    let p = place_at v page in
    let pass = passed (scan_gate (standing v) page (is_here p)) _ r own.then in
    let after = after_look s n page (contents c p) (look s n page p) in
    let P : Site → Type 0 = λ t. Moves s t None None in
    subst P (same_site (answers.Looked (said_of after (look s n page p))) after r pass.1)
    (moves_none s after (look_keeps c s n page v sound own.there (not_not _ pass.0.1.1.0)))

slot_moves : (c : Config) (s : Site) (n page word : ℕ) (v : Vm) (o : Option ℕ) (r : Answer × Site) → vm_at s n ≡ Some v → is_here (place_at v page) ≡ true → to_slot s n page (contents c (place_at v page)) o ≡ Ok r
    → Moves s r.1 (lost (events.SwapOut n word) r.0 s) None
slot_moves c s n page word v None r there here h = cc
slot_moves c s n page word v (Some i) r there here h =
    let q : Place = Out (contents c (place_at v page)) i in
    let P : (Answer × Site) → Type 0 = λ x. Moves s x.1 (lost (events.SwapOut n word) x.0 s) None in
    subst P (outcome_is (answers.PagedOut page i) (placed s n page q) r h)
    (moves_lost s (placed s n page q) n page (bits v) Swap (bits_there s n v there) (bit_in (Some v) page ∙ here) (has_placed s n page v q there))

leave_moves_by : (c : Config) (s : Site) (n page word : ℕ) (v : Vm) (l : Look) (r : Answer × Site) → vm_at s n ≡ Some v → is_here (place_at v page) ≡ true
    → Keeps s (after_look s n page (contents c (place_at v page)) l) → leave_by c s n page (contents c (place_at v page)) l ≡ Ok r → Moves s r.1 (lost (events.SwapOut n word) r.0 s) None
leave_moves_by c s n page word v Already r there here keeps h = slot_moves c s n page word v (least_slot c.slots s) r there here h
leave_moves_by c s n page word v (SharedFrame f) r there here keeps h =
    let P : (Answer × Site) → Type 0 = λ x. Moves s x.1 (lost (events.SwapOut n word) x.0 s) None in
    let after = after_look s n page (contents c (place_at v page)) (SharedFrame f) in
    subst P (outcome_is (answers.SharedOut page f) after r h) (moves_none s after keeps)
leave_moves_by c s n page word v (OtherPage m q f) r there here keeps h =
    let P : (Answer × Site) → Type 0 = λ x. Moves s x.1 (lost (events.SwapOut n word) x.0 s) None in
    let after = after_look s n page (contents c (place_at v page)) (OtherPage m q f) in
    subst P (outcome_is (answers.SharedOut page f) after r h) (moves_none s after keeps)
leave_moves_by c s n page word v Changed r there here keeps h = slot_moves c s n page word v (least_slot c.slots s) r there here h
leave_moves_by c s n page word v OtherBytes r there here keeps h = slot_moves c s n page word v (least_slot c.slots s) r there here h
leave_moves_by c s n page word v Nothing r there here keeps h = slot_moves c s n page word v (least_slot c.slots s) r there here h

leave_moves : (c : Config) (s : Site) (n : ℕ) (v : Vm) (word : ℕ) (o : Option ℕ) (r : Answer × Site) → IsSound c s → vm_at s n ≡ Some v → victim v word ≡ o → leave c s n v o ≡ Ok r
    → Moves s r.1 (lost (events.SwapOut n word) r.0 s) None
leave_moves c s n v word None r sound there drawn h = cc
leave_moves c s n v word (Some page) r sound there drawn h =
    let here = (drawn_is_here v word page drawn).1 in
    leave_moves_by c s n page word v (look s n page (place_at v page)) r there here (look_keeps c s n page v sound there here) h

pub swap_out_moves : (c : Config) (s : Site) (level : Level) (n word : ℕ) (r : Answer × Site) → IsSound c s → swap_out c s level n word ≡ Ok r → Moves s r.1 (lost (events.SwapOut n word) r.0 s) None
unfolding swap_out
swap_out_moves c s level n word r sound h =
    let own = of_vm (vm_at s n) _ r h in
    let v = own.vm in
    let pass = passed (swap_out_gate level (standing v)) _ r own.then in
    leave_moves c s n v word (victim v word) r sound own.there refl pass.1
