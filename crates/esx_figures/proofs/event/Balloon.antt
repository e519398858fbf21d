-- What the balloon's events change of pages in shared frames.
use Rattle.std.proofs.Common.{◌≡◌, ℕ, ◌+◌, ◌-◌, true, false, refl, sym, ◌∙◌, subst, Option, Some, None, Ok, inl, inr}
use Rattle.esx_types.specs.declared.config.Config.{Config}
use Rattle.esx_events.specs.declared.event.Answer.{Answer}
use Rattle.esx_events.specs.declared.event.Answer.TheVariants as answers
use Rattle.esx_events.specs.declared.event.Event.TheVariants as events
use Rattle.esx_model.specs.declared.scene.Place.{Place}
use Rattle.esx_model.specs.declared.scene.Place.TheVariants.{Untouched, Here, Out, Lent}
use Rattle.esx_model.specs.declared.scene.Vm.{Vm}
use Rattle.esx_model.specs.declared.scene.Site.{Site}
use Rattle.esx_model.specs.Places.{is_shared, is_lent_in}
use Rattle.esx_model.specs.Site.{vm_at, with_vm, place_at, lent}
use Rattle.esx_model.specs.Hints.{placed}
use Rattle.esx_model.specs.event.Outcome.{Outcome, standing, goal, running_gate, page_gate, unless}
use Rattle.esx_model.specs.event.Balloon.{is_lent, unless_due, lend_gate, take_back_gate, ask, lend, take_back}
use Rattle.esx_model.specs.sound.Sound.{IsSound}
use Rattle.esx_model.proofs.Callers.{of_vm, passed, accepted, same_site, chosen, not_not, below_max}
use Rattle.esx_story.proofs.event.Access.{outcome_is}
use Rattle.esx_figures.specs.Sharing.{has_shared, parting, parted}
use Rattle.esx_figures.proofs.Marks.{Shares, shares_same, shares_parted, same_put, same_vm, put_placed}
use Rattle.esx_figures.proofs.event.Access.{within_places, shared_there}

-- a reset that is due moves no page
due_shares : (s : Site) (n : ℕ) (v : Vm) (o : Outcome) (l : Answer → Option ℕ) (r : Answer × Site) → vm_at s n ≡ Some v → ((e : ℕ) → l (answers.Reset e) ≡ None)
    → (o ≡ Ok r → Shares s r.1 (l r.0) None None) → unless_due s n v o ≡ Ok r → Shares s r.1 (l r.0) None None
due_shares s n v o l r there none then h =
    let w : Vm = record v { epoch = v.epoch + 1; due = false } in
    elim (chosen v.due (accepted (answers.Reset (v.epoch + 1)) (with_vm s n w)) o (Ok r) h) [
      | inl k ↦ (let P : (Answer × Site) → Type 0 = λ x. Shares s x.1 (l x.0) None None in
          let Q : Option ℕ → Type 0 = λ x. Shares s (with_vm s n w) x None None in
          subst P (outcome_is (answers.Reset (v.epoch + 1)) (with_vm s n w) r k.1)
          (subst Q (sym (none (v.epoch + 1))) (shares_same s (with_vm s n w) (same_vm s n v w s.hints there refl))))
      | inr k ↦ then k.1
    ]

pub ask_shares : (s : Site) (n : ℕ) (r : Answer × Site) → ask s n ≡ Ok r → Shares s r.1 None None None
unfolding ask
ask_shares s n r h =
    let own = of_vm (vm_at s n) _ r h in
    let v = own.vm in
    let pass = passed (running_gate (standing v)) _ r own.then in
    let said : Answer = answers.Goal (goal (standing v)) (lent v) v.epoch in
    let P : Site → Type 0 = λ t. Shares s t None None None in
    due_shares s n v (accepted said s) (λ a. None) r own.there (λ e. refl) (λ k. subst P (same_site said s r k) (shares_same s s (λ m. refl))) pass.1

pub lend_shares : (c : Config) (s : Site) (n page : ℕ) (r : Answer × Site) → IsSound c s → lend s n page ≡ Ok r → Shares s r.1 (parted s (parting (events.Lend n page) r.0)) None None
unfolding lend
lend_shares c s n page r sound h =
    let own = of_vm (vm_at s n) _ r h in
    let v = own.vm in
    let pass = passed (page_gate (standing v) page) _ r own.then in
    let said : Answer = answers.Lent (lent v + 1) (goal (standing v)) in
    let gate = lend_gate (is_lent v page) (standing v) in
    let after = placed s n page (Lent v.epoch) in
    let within = within_places c s n page v sound own.there (below_max v.spec.max page pass.0.1.0) in
    let P : (Answer × Site) → Type 0 = λ x. Shares s x.1 (parted s (parting (events.Lend n page) x.0)) None None in
    due_shares s n v (unless gate (accepted said after)) (λ a. parted s (parting (events.Lend n page) a)) r own.there (λ e. refl)
    (λ k. subst P (outcome_is said after r (passed gate _ r k).1) (shares_parted s after n (has_shared s n page) (put_placed s n page v (Lent v.epoch) own.there within))) pass.1

lent_unshared : (e : ℕ) (p : Place) → is_lent_in e p ≡ true → is_shared p ≡ false
lent_unshared e Untouched h = refl
lent_unshared e (Here bytes f shared) h = cc
lent_unshared e (Out bytes i) h = refl
lent_unshared e (Lent d) h = refl

pub take_back_shares : (c : Config) (s : Site) (n page : ℕ) (r : Answer × Site) → IsSound c s → take_back s n page ≡ Ok r → Shares s r.1 None None None
unfolding take_back
take_back_shares c s n page r sound h =
    let own = of_vm (vm_at s n) _ r h in
    let v = own.vm in
    let pass = passed (page_gate (standing v) page) _ r own.then in
    let said : Answer = answers.TakenBack (lent v - 1) in
    let gate = take_back_gate (is_lent v page) in
    let after = placed s n page Untouched in
    let within = within_places c s n page v sound own.there (below_max v.spec.max page pass.0.1.0) in
    let P : Site → Type 0 = λ t. Shares s t None None None in
    due_shares s n v (unless gate (accepted said after)) (λ a. None) r own.there (λ e. refl)
    (λ k. (let back = passed gate _ r k in
    let gone : has_shared s n page ≡ false = shared_there s n page v own.there ∙ lent_unshared v.epoch (place_at v page) (not_not _ back.0.0) in
    subst P (same_site said after r back.1)
    (shares_same s after (same_put s after n (has_shared s n page) false gone (put_placed s n page v Untouched own.there within))))) pass.1
