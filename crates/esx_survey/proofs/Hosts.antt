-- The page in whose frame another came is the one that was found to be equal before.
use Rattle.std.proofs.Common.{◌≡◌, ℕ, List, refl, sym, ap, ◌∙◌, subst, Option, Some, None, option_map, Ok}
use Rattle.esx_types.specs.declared.config.Config.{Config}
use Rattle.esx_types.specs.declared.level.Level.{Level}
use Rattle.esx_events.specs.declared.event.Answer.{Answer}
use Rattle.esx_events.specs.declared.event.Answer.TheVariants as answers
use Rattle.esx_events.specs.declared.event.Event.{Event}
use Rattle.esx_events.specs.declared.event.Event.TheVariants.{Scan, SwapOut}
use Rattle.esx_model.specs.declared.look.Look.{Look}
use Rattle.esx_model.specs.declared.look.Look.TheVariants.{Already, SharedFrame, OtherPage, Changed, OtherBytes, Nothing}
use Rattle.esx_model.specs.declared.scene.Place.TheVariants as places
use Rattle.esx_model.specs.declared.scene.Vm.{Vm}
use Rattle.esx_model.specs.declared.scene.Site.{Site}
use Rattle.esx_model.specs.declared.scene.Scene.{Scene}
use Rattle.esx_model.specs.Places.{contents}
use Rattle.esx_model.specs.Site.{vm_at, place_at, least_slot}
use Rattle.esx_model.specs.Hints.{placed}
use Rattle.esx_model.specs.Replay.{next}
use Rattle.esx_model.specs.event.Outcome.{standing}
use Rattle.esx_model.specs.event.Sharing.{look, after_look, found_by}
use Rattle.esx_model.specs.event.Paging.{victim, swap_out_gate, to_slot, leave_by, leave, drawn_of, compared, swap_out}
use Rattle.esx_model.proofs.Callers.{step_of, of_vm, passed}
use Rattle.esx_story.proofs.event.Access.{outcome_is}
use Rattle.esx_sums.specs.Moving.{page_shared}
use Rattle.esx_survey.specs.Changes.{host_by}

-- a page that is shared in place of being paged out is the one that was drawn
abbrev IsDrawn : Site → ℕ → ℕ → Answer → Type 0
IsDrawn s n word (answers.SharedOut page frame) = drawn_of n (vm_at s n) word ≡ Some (n, page)
IsDrawn s n word _ = Unit {0}

page_drawn : (s : Site) (n word page : ℕ) (v : Vm) → vm_at s n ≡ Some v → victim v word ≡ Some page → drawn_of n (vm_at s n) word ≡ Some (n, page)
page_drawn s n word page v there draws = ap (λ o. drawn_of n o word) there ∙ ap (option_map (λ q. (n, q))) draws

slot_draws : (s : Site) (n word page : ℕ) (bytes : List ℕ) (o : Option ℕ) (r : Answer × Site) → to_slot s n page bytes o ≡ Ok r → IsDrawn s n word r.0
slot_draws s n word page bytes None r h = cc
slot_draws s n word page bytes (Some i) r h =
    let P : (Answer × Site) → Type 0 = λ x. IsDrawn s n word x.0 in
    subst P (outcome_is (answers.PagedOut page i) (placed s n page (places.Out bytes i)) r h) tt

left_draws : (c : Config) (s : Site) (n word page : ℕ) (bytes : List ℕ) (l : Look) (r : Answer × Site) → drawn_of n (vm_at s n) word ≡ Some (n, page) → leave_by c s n page bytes l ≡ Ok r → IsDrawn s n word r.0
left_draws c s n word page bytes Already r draws h = slot_draws s n word page bytes (least_slot c.slots s) r h
left_draws c s n word page bytes (SharedFrame f) r draws h =
    let P : (Answer × Site) → Type 0 = λ x. IsDrawn s n word x.0 in
    subst P (outcome_is (answers.SharedOut page f) (after_look s n page bytes (SharedFrame f)) r h) draws
left_draws c s n word page bytes (OtherPage m q f) r draws h =
    let P : (Answer × Site) → Type 0 = λ x. IsDrawn s n word x.0 in
    subst P (outcome_is (answers.SharedOut page f) (after_look s n page bytes (OtherPage m q f)) r h) draws
left_draws c s n word page bytes Changed r draws h = slot_draws s n word page bytes (least_slot c.slots s) r h
left_draws c s n word page bytes OtherBytes r draws h = slot_draws s n word page bytes (least_slot c.slots s) r h
left_draws c s n word page bytes Nothing r draws h = slot_draws s n word page bytes (least_slot c.slots s) r h

leave_draws : (c : Config) (s : Site) (n word : ℕ) (v : Vm) (o : Option ℕ) (r : Answer × Site) → vm_at s n ≡ Some v → victim v word ≡ o → leave c s n v o ≡ Ok r → IsDrawn s n word r.0
leave_draws c s n word v None r there draws h = cc
leave_draws c s n word v (Some page) r there draws h = left_draws c s n word page (contents c (place_at v page)) (look s n page (place_at v page)) r (page_drawn s n word page v there draws) h

swap_out_draws : (c : Config) (s : Site) (level : Level) (n word : ℕ) (r : Answer × Site) → swap_out c s level n word ≡ Ok r → IsDrawn s n word r.0
unfolding swap_out
swap_out_draws c s level n word r h =
    let own = of_vm (vm_at s n) _ r h in
    let v = own.vm in
    let pass = passed (swap_out_gate level (standing v)) _ r own.then in
    leave_draws c s n word v (victim v word) r own.there refl pass.1

-- the machine of the page in whose frame another came
abbrev host_of : Site → Option (ℕ × ℕ) → Option ℕ
host_of s o = option_map (λ p. p.0) (found_by s o)

drawn_host : (s : Site) (n word : ℕ) (a : Answer) → IsDrawn s n word a → host_of s (page_shared (SwapOut n word) a) ≡ host_by (SwapOut n word) a (found_by s (drawn_of n (vm_at s n) word))
drawn_host s n word (answers.SharedOut page frame) draws = ap (host_of s) (sym draws)
drawn_host s n word _ draws = refl

pub host_told : (c : Config) (t : Scene) (e : Event) (r : Answer × Scene) → next c t e ≡ Ok r → host_of t.site (page_shared e r.0) ≡ host_by e r.0 (found_by t.site (compared t.site e))
host_told c t (Scan n page) r h = refl
host_told c t (SwapOut n word) r h =
    let s = step_of c t (SwapOut n word) r h in
    drawn_host t.site n word r.0 (subst (IsDrawn t.site n word) s.2 (swap_out_draws c t.site t.level n word s.0 s.1))
host_told c t _ r h = refl
