-- What the balloon's events lose: a page that is lent, where it was here.
use Rattle.std.proofs.Common.{◌≡◌, ℕ, ◌+◌, ◌-◌, Bool, true, false, set, refl, sym, ◌∙◌, subst, Option, Some, None, Ok, cond, inl, inr}
use Rattle.esx_events.specs.declared.event.Answer.{Answer}
use Rattle.esx_events.specs.declared.event.Answer.TheVariants as answers
use Rattle.esx_events.specs.declared.event.Event.TheVariants as events
use Rattle.esx_model.specs.declared.scene.Place.{Place}
use Rattle.esx_model.specs.declared.scene.Place.TheVariants.{Untouched, Here, Out, Lent}
use Rattle.esx_model.specs.declared.scene.Vm.{Vm}
use Rattle.esx_model.specs.declared.scene.Site.{Site}
use Rattle.esx_model.specs.Places.{is_here, is_lent_in}
use Rattle.esx_model.specs.Site.{vm_at, with_vm, place_at, place_in, lent}
use Rattle.esx_model.specs.Hints.{placed}
use Rattle.esx_model.specs.event.Outcome.{Outcome, standing, goal, running_gate, page_gate, unless}
use Rattle.esx_model.specs.event.Balloon.{is_lent, unless_due, lend_gate, take_back_gate, ask, lend, take_back}
use Rattle.esx_model.proofs.Callers.{of_vm, passed, accepted, same_site, chosen, not_not}
use Rattle.esx_story.specs.Changes.{How, Balloon, Change, change}
use Rattle.esx_story.specs.Losses.{lost, lost_if_here}
use Rattle.esx_story.proofs.Bits.{bits, bit_in, bits_there, Has, has_vm, has_placed, keeps_of, keeps_placed}
use Rattle.esx_story.proofs.Moves.{Moves, moves_none, moves_lost}
use Rattle.esx_story.proofs.event.Access.{outcome_is}

-- a reset that is due moves no page
due_moves : (s : Site) (n : ℕ) (v : Vm) (o : Outcome) (l : Answer → Option Change) (r : Answer × Site) → vm_at s n ≡ Some v → ((e : ℕ) → l (answers.Reset e) ≡ None)
    → (o ≡ Ok r → Moves s r.1 (l r.0) None) → unless_due s n v o ≡ Ok r → Moves s r.1 (l r.0) None
due_moves s n v o l r there none then h =
    let w : Vm = record v { epoch = v.epoch + 1; due = false } in
    elim (chosen v.due (accepted (answers.Reset (v.epoch + 1)) (with_vm s n w)) o (Ok r) h) [
      | inl k ↦ (let P : (Answer × Site) → Type 0 = λ x. Moves s x.1 (l x.0) None in
          let Q : Option Change → Type 0 = λ x. Moves s (with_vm s n w) x None in
          subst P (outcome_is (answers.Reset (v.epoch + 1)) (with_vm s n w) r k.1)
          (subst Q (sym (none (v.epoch + 1))) (moves_none s (with_vm s n w) (keeps_of s (with_vm s n w) n v (bits w) there (has_vm s n v w s.hints there) refl))))
      | inr k ↦ then k.1
    ]

pub ask_moves : (s : Site) (n : ℕ) (r : Answer × Site) → ask s n ≡ Ok r → Moves s r.1 None None
unfolding ask
ask_moves s n r h =
    let own = of_vm (vm_at s n) _ r h in
    let v = own.vm in
    let pass = passed (running_gate (standing v)) _ r own.then in
    let said : Answer = answers.Goal (goal (standing v)) (lent v) v.epoch in
    let P : Site → Type 0 = λ t. Moves s t None None in
    due_moves s n v (accepted said s) (λ a. None) r own.there (λ e. refl) (λ k. subst P (same_site said s r k) (moves_none s s (λ m. refl))) pass.1

-- a page that goes nowhere near a frame is lost where it was here
pub leaves : (s : Site) (n page : ℕ) (v : Vm) (q : Place) (how : How) → vm_at s n ≡ Some v → is_here q ≡ false → Moves s (placed s n page q) (lost_if_here s n page how) None
leaves s n page v q how there away =
    let t = placed s n page q in
    let P : Option Vm → Type 0 = λ o. Moves s t (cond (is_here (place_in o page)) (Some (change n page how)) None) None in
    subst P (sym there) (by (is_here (place_at v page)) refl)
  where
    by : (b : Bool) → is_here (place_at v page) ≡ b → Moves s (placed s n page q) (cond (is_here (place_at v page)) (Some (change n page how)) None) None
    by false e =
        let Q : Bool → Type 0 = λ b. Moves s (placed s n page q) (cond b (Some (change n page how)) None) None in
        subst Q (sym e) (moves_none s (placed s n page q) (keeps_placed s n page v q there (e ∙ sym away)))
    by true e =
        let Q : Bool → Type 0 = λ b. Moves s (placed s n page q) (cond b (Some (change n page how)) None) None in
        let R : Bool → Type 0 = λ b. Has s n (set (bits v) page b) (placed s n page q) in
        subst Q (sym e) (moves_lost s (placed s n page q) n page (bits v) how (bits_there s n v there) (bit_in (Some v) page ∙ e) (subst R away (has_placed s n page v q there)))

pub lend_moves : (s : Site) (n page : ℕ) (r : Answer × Site) → lend s n page ≡ Ok r → Moves s r.1 (lost (events.Lend n page) r.0 s) None
unfolding lend
lend_moves s n page r h =
    let own = of_vm (vm_at s n) _ r h in
    let v = own.vm in
    let pass = passed (page_gate (standing v) page) _ r own.then in
    let said : Answer = answers.Lent (lent v + 1) (goal (standing v)) in
    let gate = lend_gate (is_lent v page) (standing v) in
    let after = placed s n page (Lent v.epoch) in
    let P : (Answer × Site) → Type 0 = λ x. Moves s x.1 (lost (events.Lend n page) x.0 s) None in
    due_moves s n v (unless gate (accepted said after)) (λ a. lost (events.Lend n page) a s) r own.there (λ e. refl)
    (λ k. subst P (outcome_is said after r (passed gate _ r k).1) (leaves s n page v (Lent v.epoch) Balloon own.there refl)) pass.1

lent_away : (e : ℕ) (p : Place) → is_lent_in e p ≡ true → is_here p ≡ false
lent_away e Untouched h = refl
lent_away e (Here bytes f shared) h = cc
lent_away e (Out bytes i) h = refl
lent_away e (Lent d) h = refl

pub take_back_moves : (s : Site) (n page : ℕ) (r : Answer × Site) → take_back s n page ≡ Ok r → Moves s r.1 None None
unfolding take_back
take_back_moves s n page r h =
    let own = of_vm (vm_at s n) _ r h in
    let v = own.vm in
    let pass = passed (page_gate (standing v) page) _ r own.then in
    let said : Answer = answers.TakenBack (lent v - 1) in
    let gate = take_back_gate (is_lent v page) in
    let P : Site → Type 0 = λ t. Moves s t None None in
    due_moves s n v (unless gate (accepted said (placed s n page Untouched))) (λ a. None) r own.there (λ e. refl)
    (λ k. (let back = passed gate _ r k in
    subst P (same_site said (placed s n page Untouched) r back.1)
    (moves_none s (placed s n page Untouched) (keeps_placed s n page v Untouched own.there (lent_away v.epoch (place_at v page) (not_not _ back.0.0)))))) pass.1
