-- What the balloon's events move: the page that is lent or taken back, if no reset takes the place of that; and a page that is dropped.
use Rattle.std.proofs.Common.{◌≡◌, ℕ, ◌+◌, ◌-◌, Bool, true, false, ◌||◌, List, refl, sym, ap, ◌∙◌, subst, Option, Some, None, Ok, inl, inr}
use Rattle.std.proofs.lemmas.List.{get_or-set_same, get_or-set_other}
use Rattle.esx_events.specs.declared.event.Answer.{Answer}
use Rattle.esx_events.specs.declared.event.Answer.TheVariants as answers
use Rattle.esx_events.specs.declared.event.Event.{Event}
use Rattle.esx_events.specs.declared.event.Event.TheVariants.{Ask, Lend, TakeBack, DropPage}
use Rattle.esx_model.specs.declared.scene.Place.TheVariants.{Untouched, Lent}
use Rattle.esx_model.specs.declared.scene.Vm.{Vm}
use Rattle.esx_model.specs.declared.scene.Site.{Site}
use Rattle.esx_model.specs.Places.{is_here, is_out}
use Rattle.esx_model.specs.Site.{vm_at, with_vm, place_at, lent}
use Rattle.esx_model.specs.Hints.{placed}
use Rattle.esx_model.specs.event.Outcome.{Outcome, standing, goal, running_gate, page_gate, unless}
use Rattle.esx_model.specs.event.Balloon.{is_lent, unless_due, lend_gate, take_back_gate, ask, lend, take_back}
use Rattle.esx_model.specs.event.Leaving.{drop_gate, drop_page}
use Rattle.esx_model.proofs.Callers.{of_vm, passed, accepted, chosen, some_below}
use Rattle.esx_story.proofs.event.Access.{outcome_is}
use Rattle.esx_passages.specs.Passages.{Pages, movers, one_page}
use Rattle.esx_passages.specs.Readings.{epoch_in, new_epoch}
use Rattle.esx_passages.proofs.Steady.{is_that, is_among, steady_same, steady_more, steady_placed, Steady, Goes, second_of}

-- a reset that is due touches its machine alone
due_goes : (e : Event) (s : Site) (found : Option (ℕ × ℕ)) (n : ℕ) (v : Vm) (o : Outcome) (r : Answer × Site) → vm_at s n ≡ Some v → ((k : ℕ) → new_epoch e (answers.Reset k) ≡ Some (n, k)) → (o ≡ Ok r → Goes e s found r)
    → unless_due s n v o ≡ Ok r → Goes e s found r
due_goes e s found n v o r there told then h =
    let w : Vm = record v { epoch = v.epoch + 1; due = false } in
    elim (chosen v.due (accepted (answers.Reset (v.epoch + 1)) (with_vm s n w)) o (Ok r) h) [
      | inl k ↦ (let P : (Answer × Site) → Type 0 = Goes e s found in
          subst P (outcome_is (answers.Reset (v.epoch + 1)) (with_vm s n w) r k.1)
          (inr (record {
            number = n;
            epoch = v.epoch + 1;
            told = told (v.epoch + 1);
            comes = ap epoch_in (get_or-set_same s.vms n (Some w) None (some_below s.vms n v there));
            others = λ m other. get_or-set_other s.vms n m (Some w) None other;
          })))
      | inr k ↦ then k.1
    ]

pub ask_goes : (found : Option (ℕ × ℕ)) (s : Site) (n : ℕ) (r : Answer × Site) → ask s n ≡ Ok r → Goes (Ask n) s found r
unfolding ask
ask_goes found s n r h =
    let own = of_vm (vm_at s n) _ r h in
    let v = own.vm in
    let pass = passed (running_gate (standing v)) _ r own.then in
    let said : Answer = answers.Goal (goal (standing v)) (lent v) v.epoch in
    let P : (Answer × Site) → Type 0 = Goes (Ask n) s found in
    due_goes (Ask n) s found n v (accepted said s) r own.there (λ k. refl)
    (λ k. subst P (outcome_is said s r k) (inl (record { none = refl; steady = steady_same s (is_among (movers (Ask n) said found)); apart = λ m p no. cc }))) pass.1

-- the page that an event names moved alone
pub named_goes : (e : Event) (s : Site) (found : Option (ℕ × ℕ)) (n page : ℕ) (a : Answer) (t : Site) → new_epoch e a ≡ None → movers e a found ≡ one_page n page → Steady s t (is_that (Some (n, page))) → Goes e s found (a, t)
named_goes e s found n page a t none is one =
    let P : Pages → Type 0 = λ pages. Steady s t (is_among pages) in
    let Q : Pages → Type 0 = λ pages. (m p : ℕ) → is_that pages.first m p ≡ true → is_that pages.second m p ≡ false in
    inl (record {
      none = none;
      steady = subst P (sym is) (steady_more s t (is_that (Some (n, page))) (is_among (one_page n page)) (λ m p h. second_of None (Some (n, page)) m p h) one);
      apart = subst Q (sym is) (λ m p no. cc);
    })

pub lend_goes : (found : Option (ℕ × ℕ)) (s : Site) (n page : ℕ) (r : Answer × Site) → lend s n page ≡ Ok r → Goes (Lend n page) s found r
unfolding lend
lend_goes found s n page r h =
    let own = of_vm (vm_at s n) _ r h in
    let v = own.vm in
    let pass = passed (page_gate (standing v) page) _ r own.then in
    let said : Answer = answers.Lent (lent v + 1) (goal (standing v)) in
    let gate = lend_gate (is_lent v page) (standing v) in
    let after = placed s n page (Lent v.epoch) in
    let P : (Answer × Site) → Type 0 = Goes (Lend n page) s found in
    due_goes (Lend n page) s found n v (unless gate (accepted said after)) r own.there (λ k. refl)
    (λ k. (let go = passed gate _ r k in
    subst P (outcome_is said after r go.1) (named_goes (Lend n page) s found n page said after refl refl (steady_placed s n page v (Lent v.epoch) own.there)))) pass.1

pub take_back_goes : (found : Option (ℕ × ℕ)) (s : Site) (n page : ℕ) (r : Answer × Site) → take_back s n page ≡ Ok r → Goes (TakeBack n page) s found r
unfolding take_back
take_back_goes found s n page r h =
    let own = of_vm (vm_at s n) _ r h in
    let v = own.vm in
    let pass = passed (page_gate (standing v) page) _ r own.then in
    let said : Answer = answers.TakenBack (lent v - 1) in
    let gate = take_back_gate (is_lent v page) in
    let after = placed s n page Untouched in
    let P : (Answer × Site) → Type 0 = Goes (TakeBack n page) s found in
    due_goes (TakeBack n page) s found n v (unless gate (accepted said after)) r own.there (λ k. refl)
    (λ k. (let go = passed gate _ r k in
    subst P (outcome_is said after r go.1) (named_goes (TakeBack n page) s found n page said after refl refl (steady_placed s n page v Untouched own.there)))) pass.1

pub drop_page_goes : (found : Option (ℕ × ℕ)) (s : Site) (n page : ℕ) (r : Answer × Site) → drop_page s n page ≡ Ok r → Goes (DropPage n page) s found r
unfolding drop_page
drop_page_goes found s n page r h =
    let own = of_vm (vm_at s n) _ r h in
    let v = own.vm in
    let pass = passed (drop_gate (standing v) page (is_here (place_at v page) || is_out (place_at v page))) _ r own.then in
    let after = placed s n page Untouched in
    let P : (Answer × Site) → Type 0 = Goes (DropPage n page) s found in
    subst P (outcome_is answers.Done after r pass.1) (named_goes (DropPage n page) s found n page answers.Done after refl refl (steady_placed s n page v Untouched own.there))
