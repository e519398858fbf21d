-- The page whose word is drawn goes out.
use Rattle.std.proofs.Common.{◌≡◌, ℕ, List, refl, sym, ap, ◌∙◌, subst, Option, None, Some, Ok}
use Rattle.esx_types.specs.declared.config.Config.{Config}
use Rattle.esx_types.specs.declared.level.Level.{Level}
use Rattle.esx_events.specs.declared.event.Answer.{Answer}
use Rattle.esx_events.specs.declared.event.Answer.TheVariants as answers
use Rattle.esx_events.specs.declared.event.Event.TheVariants.{SwapOut}
use Rattle.esx_model.specs.declared.look.Look.{Look}
use Rattle.esx_model.specs.declared.look.Look.TheVariants.{Already, SharedFrame, OtherPage, Changed, OtherBytes, Nothing}
use Rattle.esx_model.specs.declared.scene.Place.TheVariants.{Out}
use Rattle.esx_model.specs.declared.scene.Site.{Site}
use Rattle.esx_model.specs.declared.scene.Scene.{Scene}
use Rattle.esx_model.specs.Places.{contents}
use Rattle.esx_model.specs.Site.{vm_at, place_at, least_slot}
use Rattle.esx_model.specs.Hints.{placed}
use Rattle.esx_model.specs.event.Outcome.{standing}
use Rattle.esx_model.specs.event.Sharing.{look, after_look}
use Rattle.esx_model.specs.event.Paging.{swap_out_gate, to_slot, leave_by, leave, swap_out}
use Rattle.esx_model.specs.Replay.{next}
use Rattle.esx_model.proofs.Callers.{step_of, of_vm, passed, accepted}
use Rattle.esx_pageout.specs.Word.{word_of}
use Rattle.esx_pageout.specs.Draws.{TellsOut}
use Rattle.esx_pageout.proofs.Draws.{draws_its_page}

answer_is : (a : Answer) (t : Site) (r : Answer × Site) → accepted a t ≡ Ok r → a ≡ r.0
answer_is a t r h = (let pair : (a, t) ≡ r = cc in ap (λ (x : Answer × Site). x.0) pair)

slot_tells : (s : Site) (n page : ℕ) (bytes : List ℕ) (o : Option ℕ) (r : Answer × Site) → to_slot s n page bytes o ≡ Ok r → TellsOut page r.0
slot_tells s n page bytes None r h = cc
slot_tells s n page bytes (Some slot) r h = subst (TellsOut page) (answer_is (answers.PagedOut page slot) (placed s n page (Out bytes slot)) r h) refl

leave_tells : (c : Config) (s : Site) (n page : ℕ) (bytes : List ℕ) (l : Look) (r : Answer × Site) → leave_by c s n page bytes l ≡ Ok r → TellsOut page r.0
leave_tells c s n page bytes Already r h = slot_tells s n page bytes (least_slot c.slots s) r h
leave_tells c s n page bytes (SharedFrame f) r h = subst (TellsOut page) (answer_is (answers.SharedOut page f) (after_look s n page bytes (SharedFrame f)) r h) refl
leave_tells c s n page bytes (OtherPage m q f) r h = subst (TellsOut page) (answer_is (answers.SharedOut page f) (after_look s n page bytes (OtherPage m q f)) r h) refl
leave_tells c s n page bytes Changed r h = slot_tells s n page bytes (least_slot c.slots s) r h
leave_tells c s n page bytes OtherBytes r h = slot_tells s n page bytes (least_slot c.slots s) r h
leave_tells c s n page bytes Nothing r h = slot_tells s n page bytes (least_slot c.slots s) r h

swap_out_tells : (c : Config) (s : Site) (level : Level) (n page word : ℕ) (r : Answer × Site) → word_of s n page ≡ Ok word → swap_out c s level n word ≡ Ok r → TellsOut page r.0
unfolding swap_out
swap_out_tells c s level n page word r is h =
    let own = of_vm (vm_at s n) _ r h in
    let v = own.vm in
    let pass = passed (swap_out_gate level (standing v)) _ r own.then in
    let drawn = (draws_its_page s n page word v own.there is).1 in
    leave_tells c s n page (contents c (place_at v page)) (look s n page (place_at v page)) r (ap (leave c s n v) (sym drawn) ∙ pass.1)

pub goes_out : (c : Config) (t : Scene) (n page word : ℕ) (r : Answer × Scene) → word_of t.site n page ≡ Ok word → next c t (SwapOut n word) ≡ Ok r → TellsOut page r.0
goes_out c t n page word r is h =
    let made = step_of c t (SwapOut n word) r h in
    subst (TellsOut page) made.2 (swap_out_tells c t.site t.level n page word made.0 is made.1)
