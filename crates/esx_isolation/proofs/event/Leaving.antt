-- What the end of a machine does to memories.
use Rattle.std.proofs.Common.{◌≡◌, ℕ, ◌-◌, ◌||◌, nat_lt, List, length, take, set, refl, sym, ap, ◌∙◌, subst, arith, Option, Some, None, Ok, cond, inl, inr}
use Rattle.std.specs.Option.{option_map}
use Rattle.std.proofs.lemmas.List.{length-take-le, map-set}
use Rattle.esx_types.specs.declared.config.Config.{Config}
use Rattle.esx_types.specs.declared.vm.VmState.TheVariants.{Stopping}
use Rattle.esx_events.specs.declared.event.Answer.{Answer}
use Rattle.esx_events.specs.declared.event.Answer.TheVariants as answers
use Rattle.esx_model.specs.declared.scene.Place.TheVariants.{Untouched}
use Rattle.esx_model.specs.declared.scene.Vm.{Vm}
use Rattle.esx_model.specs.declared.scene.Site.{Site}
use Rattle.esx_model.specs.Places.{is_here, is_out}
use Rattle.esx_model.specs.Site.{vm_at, with_vm, place_at}
use Rattle.esx_model.specs.Hints.{placed}
use Rattle.esx_model.specs.event.Outcome.{standing}
use Rattle.esx_model.specs.event.Leaving.{stop_gate, stop, drop_gate, drop_page, gone_gate, without_last, gone}
use Rattle.esx_model.proofs.Callers.{of_vm, passed, accepted, same_site, chosen, some_below}
use Rattle.esx_model.specs.Memory.{Memory, memory_of, cell_of, with_cell, blank, stopped, frame_back}
use Rattle.esx_isolation.proofs.Turns.{Turns, has_set, has_vm, has_placed, turns_by}

pub stop_turns : (c : Config) (s : Site) (n : ℕ) (r : Answer × Site) → stop s n ≡ Ok r → Turns c s n (option_map stopped) r.1
unfolding stop
stop_turns c s n r h =
    let own = of_vm (vm_at s n) _ r h in
    let v = own.vm in
    let pass = passed (stop_gate (standing v)) _ r own.then in
    let w : Vm = record v { state = Stopping; period = None } in
    let f : Option Memory → Option Memory = option_map stopped in
    let P : Site → Type 0 = Turns c s n f in
    subst P (same_site answers.Done (with_vm s n w) r pass.1) (turns_by c s (with_vm s n w) n v (Some (memory_of c w)) f own.there (has_vm c s n v w s.hints own.there) refl)

pub drop_page_turns : (c : Config) (s : Site) (n page : ℕ) (r : Answer × Site) → drop_page s n page ≡ Ok r → Turns c s n (option_map (with_cell page (blank c))) r.1
unfolding drop_page
drop_page_turns c s n page r h =
    let own = of_vm (vm_at s n) _ r h in
    let v = own.vm in
    let pass = passed (drop_gate (standing v) page (is_here (place_at v page) || is_out (place_at v page))) _ r own.then in
    let f : Option Memory → Option Memory = option_map (with_cell page (blank c)) in
    let P : Site → Type 0 = Turns c s n f in
    subst P (same_site answers.Done (placed s n page Untouched) r pass.1)
    (turns_by c s (placed s n page Untouched) n v _ f own.there (has_placed c s n page v Untouched own.there)
    (ap (λ cells. Some (record (memory_of c v) { pages = cells })) (map-set (cell_of c) v.places page Untouched)))

fewer : (held : List ℕ) → length (take (length held - 1) held) ≡ length held - 1
fewer held = length-take-le (length held - 1) held (omega arith)

pub gone_turns : (c : Config) (s : Site) (n : ℕ) (r : Answer × Site) → gone s n ≡ Ok r → Turns c s n frame_back r.1
unfolding gone
gone_turns c s n r h =
    let own = of_vm (vm_at s n) _ r h in
    let v = own.vm in
    let pass = passed (gone_gate (standing v)) _ r own.then in
    let more = nat_lt 1 (length v.overhead) in
    let w = without_last v in
    let less : Memory = record (memory_of c v) { held = length v.overhead - 1 } in
    let none : Site = record s { vms = set s.vms n None } in
    let P : Site → Type 0 = Turns c s n frame_back in
    elim (chosen more (accepted (answers.GivenBack (length v.overhead - 1)) (with_vm s n w)) (accepted answers.Gone none) (Ok r) pass.1) [
      | inl k ↦ subst P (same_site (answers.GivenBack (length v.overhead - 1)) (with_vm s n w) r k.1)
          (turns_by c s (with_vm s n w) n v (Some (memory_of c w)) frame_back own.there (has_vm c s n v w s.hints own.there)
          (ap (λ held. Some (record (memory_of c v) { held = held })) (fewer v.overhead) ∙ ap (λ b. cond b (Some less) None) (sym k.0)))
      | inr k ↦ subst P (same_site answers.Gone none r k.1)
          (turns_by c s none n v None frame_back own.there (has_set c s n None s.hints s.tau (some_below s.vms n v own.there)) (ap (λ b. cond b (Some less) None) (sym k.0)))
    ]
