-- What the balloon's events do to memories.
use Rattle.std.proofs.Common.{◌≡◌, ℕ, ◌+◌, ◌-◌, false, sym, ap, subst, Some, Ok, cond, inl, inr}
use Rattle.std.proofs.lemmas.List.{map-set}
use Rattle.std.specs.Option.{option_map}
use Rattle.esx_types.specs.declared.config.Config.{Config}
use Rattle.esx_events.specs.declared.event.Answer.{Answer}
use Rattle.esx_events.specs.declared.event.Answer.TheVariants as answers
use Rattle.esx_model.specs.declared.scene.Place.{Place}
use Rattle.esx_model.specs.declared.scene.Place.TheVariants.{Untouched, Lent}
use Rattle.esx_model.specs.declared.scene.Vm.{Vm}
use Rattle.esx_model.specs.declared.scene.Site.{Site}
use Rattle.esx_model.specs.Site.{vm_at, with_vm, lent}
use Rattle.esx_model.specs.Hints.{placed}
use Rattle.esx_model.specs.event.Outcome.{Outcome, standing, goal, running_gate, page_gate, unless}
use Rattle.esx_model.specs.event.Balloon.{is_lent, unless_due, lend_gate, take_back_gate, ask, lend, take_back}
use Rattle.esx_model.proofs.Callers.{of_vm, passed, accepted, same_site, chosen}
use Rattle.esx_model.specs.Memory.{Memory, memory_of, cell_of, with_cell, blank, unless_reset, given_up}
use Rattle.esx_isolation.proofs.Turns.{Has, Turns, has_itself, has_vm, has_placed, turns_by}

-- a reset that is due, or what the driver asked for
due_turns : (c : Config) (s : Site) (n : ℕ) (v : Vm) (o : Outcome) (f : Memory → Memory) (r : Answer × Site) → vm_at s n ≡ Some v
    → (o ≡ Ok r → Has c s n (Some (f (memory_of c v))) r.1) → unless_due s n v o ≡ Ok r → Turns c s n (option_map (unless_reset f)) r.1
due_turns c s n v o f r there then h =
    let w : Vm = record v { epoch = v.epoch + 1; due = false } in
    elim (chosen v.due (accepted (answers.Reset (v.epoch + 1)) (with_vm s n w)) o (Ok r) h) [
      | inl k ↦ (let P : Site → Type 0 = Turns c s n (option_map (unless_reset f)) in
          subst P (same_site (answers.Reset (v.epoch + 1)) (with_vm s n w) r k.1)
          (turns_by c s (with_vm s n w) n v (Some (memory_of c w)) (option_map (unless_reset f)) there (has_vm c s n v w s.hints there)
          (ap (λ b. Some (cond b (memory_of c w) (f (memory_of c v)))) (sym k.0))))
      | inr k ↦ turns_by c s r.1 n v (Some (f (memory_of c v))) (option_map (unless_reset f)) there (then k.1)
          (ap (λ b. Some (cond b (memory_of c w) (f (memory_of c v)))) (sym k.0))
    ]

pub ask_turns : (c : Config) (s : Site) (n : ℕ) (r : Answer × Site) → ask s n ≡ Ok r → Turns c s n (option_map (unless_reset (λ m. m))) r.1
unfolding ask
ask_turns c s n r h =
    let own = of_vm (vm_at s n) _ r h in
    let v = own.vm in
    let pass = passed (running_gate (standing v)) _ r own.then in
    let said : Answer = answers.Goal (goal (standing v)) (lent v) v.epoch in
    let P : Site → Type 0 = Has c s n (Some (memory_of c v)) in
    due_turns c s n v (accepted said s) (λ m. m) r own.there (λ k. subst P (same_site said s r k) (has_itself c s n v own.there)) pass.1

placed_has : (c : Config) (s : Site) (n page : ℕ) (v : Vm) (q : Place) (a : Answer) (r : Answer × Site) → vm_at s n ≡ Some v → accepted a (placed s n page q) ≡ Ok r → Has c s n (Some (with_cell page (cell_of c q) (memory_of c v))) r.1
placed_has c s n page v q a r there h =
    let P : Site → Type 0 = Has c s n (Some (with_cell page (cell_of c q) (memory_of c v))) in
    let Q : Memory → Type 0 = λ x. Has c s n (Some x) (placed s n page q) in
    subst P (same_site a (placed s n page q) r h)
    (subst Q (ap (λ cells. record (memory_of c v) { pages = cells }) (map-set (cell_of c) v.places page q)) (has_placed c s n page v q there))

pub lend_turns : (c : Config) (s : Site) (n page : ℕ) (r : Answer × Site) → lend s n page ≡ Ok r → Turns c s n (option_map (unless_reset (given_up c page))) r.1
unfolding lend
lend_turns c s n page r h =
    let own = of_vm (vm_at s n) _ r h in
    let v = own.vm in
    let pass = passed (page_gate (standing v) page) _ r own.then in
    let said : Answer = answers.Lent (lent v + 1) (goal (standing v)) in
    let gate = lend_gate (is_lent v page) (standing v) in
    due_turns c s n v (unless gate (accepted said (placed s n page (Lent v.epoch)))) (given_up c page) r own.there
    (λ k. placed_has c s n page v (Lent v.epoch) said r own.there (passed gate _ r k).1) pass.1

pub take_back_turns : (c : Config) (s : Site) (n page : ℕ) (r : Answer × Site) → take_back s n page ≡ Ok r → Turns c s n (option_map (unless_reset (with_cell page (blank c)))) r.1
unfolding take_back
take_back_turns c s n page r h =
    let own = of_vm (vm_at s n) _ r h in
    let v = own.vm in
    let pass = passed (page_gate (standing v) page) _ r own.then in
    let said : Answer = answers.TakenBack (lent v - 1) in
    let gate = take_back_gate (is_lent v page) in
    due_turns c s n v (unless gate (accepted said (placed s n page Untouched))) (with_cell page (blank c)) r own.there
    (λ k. placed_has c s n page v Untouched said r own.there (passed gate _ r k).1) pass.1
