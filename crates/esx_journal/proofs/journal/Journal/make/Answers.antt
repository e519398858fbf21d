use Rattle.std.proofs.Common.{rules, ◌≡◌, ◌∙◌, sym, ap, subst, arith, refl, ◌<◌, ◌+◌, ◌^◌, ◌∷◌, length, List, cond, Option, Some, None, Result, Ok, Err}
use Rattle.std.specs.Prelude.{IsErrAnd, IsOk}
use Rattle.esx_events.specs.declared.event.Answer.{Answer}
use Rattle.esx_events.specs.declared.event.Refusal.{Refusal}
use Rattle.esx_machine.specs.Machine as machines
use Rattle.esx_machine.specs.Machine.{Back, Trades}
use Rattle.esx_model.specs.Tree.{Down}
use Rattle.esx_model.specs.History.{History, do_event, done}
use Rattle.esx_journal.specs.Rows.{Row}
use Rattle.esx_journal.specs.Journal.{Kept, Holds, IsKept, DoesWith, Refused, Accepted}
use Rattle.esx_journal.proofs.Steps.{cursor_fits}
use Rattle.esx_journal.specs.Children.{AreLinked, no_row}
use Rattle.esx_journal.proofs.Linking.{linked_grown}
use Rattle.esx_journal.proofs.Moves.{depth_small}
use Rattle.esx_journal.proofs.Grows.{applied, accepted_is, refused, full_is, trades_back, rise_here}
use Rattle.esx_journal.proofs.journal.Journal.make.Goals as goal

err_is : (r : Result (Answer × Option Answer) Refusal) (e : Refusal) → IsErrAnd r (λ x. x ≡ e) → r ≡ Err e
err_is (Err x) e h = ap (λ y. Err y) h
err_is (Ok x) e h = absurd h

-- a record that is given back leads where it led
leads_back : (here there : machines.Kept) (given back : Back) → given ≡ back → Trades back here there → Trades given here there
leads_back here there given back e trades = (let P : Back → Type 0 = λ b. Trades b here there in subst P (sym e) trades)

pub returns-then-made-self-clause-does : goal.returns-then-made-self-clause-does
returns-then-made-self-clause-does c = λ m h. record {
  same = refl;
  why = λ _. full_is m c.args.event.now (let s = h.size in let l = h.limit in let v = ap (λ (x : Kept). x.nodes) c.self.view_is in let w = ap (λ (x : Kept). length x.rows) c.self.view_is in omega arith);
  late = λ o. cc;
}

pub apply-requires : goal.apply-requires
apply-requires c =
    let k = c.self.invariant in
    let fits = k.fits in
    let limit = k.limit in
    record { rise = rise_here _ k.history no_row k.holds (omega arith) }

pub invariant_of-self : goal.invariant_of-self
invariant_of-self c =
    let k = c.self.invariant in
    let l = k.holds.limit in
    let s = k.holds.size in
    let old : Kept = record { machine = c.self.inside.machine; rows = c.self.inside.rows; cursor = c.self.inside.cursor; depth = c.self.inside.depth; nodes = c.self.inside.nodes; marks = c.self.inside.marks } in
    let x = refused old c.apply.new.self k.history c.args.event.now c.in_err-answer.field-0.0 no_row k.holds (omega arith) c.in_err-answer.ensures.event in
    let P : machines.Kept → Type 0 = λ q. IsKept (record old { machine = q }) in
    subst P (sym x.0) k

pub returns-in_err-answer-clause-does : goal.returns-in_err-answer-clause-does
returns-in_err-answer-clause-does c =
    let r = c.in_err-answer.field-0.0 in
    let old : Kept = record { machine = c.self.inside.machine; rows = c.self.inside.rows; cursor = c.self.inside.cursor; depth = c.self.inside.depth; nodes = c.self.inside.nodes; marks = c.self.inside.marks } in
    let new : Kept = record old { machine = c.apply.new.self } in
    let P : Kept → Type 0 = λ k. (m : History) → Holds k m → Refused k new r (do_event c.args.event.now m) in
    let all : (m : History) → Holds c.args.self.now m → Refused c.args.self.now new r (do_event c.args.event.now m) = subst P c.self.view_is (λ m h.
    let l = h.limit in
    let s = h.size in
    let x = refused old c.apply.new.self m c.args.event.now r no_row h (omega arith) c.in_err-answer.ensures.event in
    record { same = ap (λ q. record old { machine = q }) x.0; why = x.1; late = x.2 }) in
    let Q : Result (Answer × Option Answer) Refusal → Type 0 = λ q. (m : History) → Holds c.args.self.now m → DoesWith q c.args.self.now new (do_event c.args.event.now m) in
    subst Q (sym (err_is c.from_residual.result r c.from_residual.ensures.1)) all

pub add_child-requires-clause-inside : goal.add_child-requires-clause-inside
add_child-requires-clause-inside c =
    let k = c.self.invariant in
    let f = cursor_fits _ k.history k.aim k.holds in
    let s = k.holds.size in
    let p = k.holds.place in
    omega arith

pub overflow_add-self : goal.overflow_add-self
overflow_add-self c =
    let k = c.self.invariant in
    let d = depth_small _ k.history k.aim k.holds in
    let s = k.holds.size in
    let l = k.limit in
    let b : c.self.inside.depth + 1 < 2 ^ 32 = omega arith in
    search (rules, b)

pub invariant_of-self-in-Ok : goal.invariant_of-self-in-Ok
unfolding done
invariant_of-self-in-Ok c =
    let k = c.self.invariant in
    let l = k.holds.limit in
    let s = k.holds.size in
    let old : Kept = record { machine = c.self.inside.machine; rows = c.self.inside.rows; cursor = c.self.inside.cursor; depth = c.self.inside.depth; nodes = c.self.inside.nodes; marks = c.self.inside.marks } in
    let new : Kept = record { machine = c.apply.new.self; rows = c.add_child.new.rows; cursor = c.len-made.result; depth = c.self.inside.depth + 1; nodes = c.self.inside.nodes; marks = c.self.inside.marks } in
    let x = applied old new k.history c.args.event.now c.in_ok-answer.answer c.in_ok-answer.back no_row k.holds (omega arith) c.in_ok-answer.ensures.event
    c.in-Ok.ensures.grown (omega arith) refl refl refl in
    let inside : c.self.inside.cursor < length c.self.inside.rows = (let f = cursor_fits _ k.history k.aim k.holds in let p = k.holds.place in omega arith) in
    record {
      history = done c.args.event.now k.history;
      aim = Down (length k.history.nodes + 1) ∷ k.aim;
      holds = x.0;
      fits = omega arith;
      limit = k.limit;
      linked = subst AreLinked (sym c.in-Ok.ensures.grown) (linked_grown old.rows c.self.inside.cursor c.in_ok-answer.back k.linked inside);
    }

pub returns-in-Ok-clause-does : goal.returns-in-Ok-clause-does
unfolding done
returns-in-Ok-clause-does c =
    let old : Kept = record { machine = c.self.inside.machine; rows = c.self.inside.rows; cursor = c.self.inside.cursor; depth = c.self.inside.depth; nodes = c.self.inside.nodes; marks = c.self.inside.marks } in
    let new : Kept = record { machine = c.apply.new.self; rows = c.add_child.new.rows; cursor = c.len-made.result; depth = c.self.inside.depth + 1; nodes = c.self.inside.nodes; marks = c.self.inside.marks } in
    let P : Kept → Type 0 = λ k. (m : History) → Holds k m → Accepted new (c.in-Ok.told.0, c.in-Ok.told.0) (do_event c.args.event.now m) in
    subst P c.self.view_is (λ m h.
    let l = h.limit in
    let s = h.size in
    let x = applied old new m c.args.event.now c.in_ok-answer.answer c.in_ok-answer.back no_row h (omega arith) c.in_ok-answer.ensures.event
    c.in-Ok.ensures.grown (omega arith) refl refl refl in
    record {
      after = done c.args.event.now m;
      gives = x.1 ∙ ap (λ a. Ok (a, done c.args.event.now m)) (sym (ap (λ (t : Answer × Option Answer). t.0) c.in-Ok.ensures.told));
      copy = refl;
      holds = x.0;
    })

pub revert-requires : goal.revert-requires
revert-requires c =
    let k = c.self.invariant in
    let old : Kept = record { machine = c.self.inside.machine; rows = c.self.inside.rows; cursor = c.self.inside.cursor; depth = c.self.inside.depth; nodes = c.self.inside.nodes; marks = c.self.inside.marks } in
    (c.self.inside.machine, leads_back c.apply.new.self old.machine c.in-Err.back c.in_ok-answer.back c.in-Err.ensures.given (trades_back old c.apply.new.self k.history c.args.event.now c.in_ok-answer.answer c.in_ok-answer.back no_row k.holds c.in_ok-answer.ensures.event))

pub invariant_of-self-in-Err : goal.invariant_of-self-in-Err
invariant_of-self-in-Err c =
    let k = c.self.invariant in
    let old : Kept = record { machine = c.self.inside.machine; rows = c.self.inside.rows; cursor = c.self.inside.cursor; depth = c.self.inside.depth; nodes = c.self.inside.nodes; marks = c.self.inside.marks } in
    let home = c.revert.ensures c.self.inside.machine (leads_back c.apply.new.self old.machine c.in-Err.back c.in_ok-answer.back c.in-Err.ensures.given (trades_back old c.apply.new.self k.history c.args.event.now c.in_ok-answer.answer c.in_ok-answer.back no_row k.holds c.in_ok-answer.ensures.event)) in
    let Q : machines.Kept → Type 0 = λ q. IsKept (record old { machine = q; rows = c.add_child.new.rows }) in
    let R : List Row → Type 0 = λ q. IsKept (record old { rows = q }) in
    subst Q (sym home) (subst R (sym c.in-Err.ensures.same) k)

pub returns-in-Err-clause-does : goal.returns-in-Err-clause-does
returns-in-Err-clause-does c =
    let k = c.self.invariant in
    let old : Kept = record { machine = c.self.inside.machine; rows = c.self.inside.rows; cursor = c.self.inside.cursor; depth = c.self.inside.depth; nodes = c.self.inside.nodes; marks = c.self.inside.marks } in
    let home = c.revert.ensures c.self.inside.machine (leads_back c.apply.new.self old.machine c.in-Err.back c.in_ok-answer.back c.in-Err.ensures.given (trades_back old c.apply.new.self k.history c.args.event.now c.in_ok-answer.answer c.in_ok-answer.back no_row k.holds c.in_ok-answer.ensures.event)) in
    let all : record old { machine = c.revert.new.machine; rows = c.add_child.new.rows } ≡ old =
    ap (λ q. record old { machine = q; rows = c.add_child.new.rows }) home ∙ ap (λ q. record old { rows = q }) c.in-Err.ensures.same in
    let P : Kept → Type 0 = λ j. (m : History) → Holds j m → IsOk (do_event c.args.event.now m) in
    let accepted = subst P c.self.view_is (λ m h.
    let l = h.limit in
    let s = h.size in
    let Q : Result (Answer × History) Refusal → Type 0 = IsOk in
    subst Q (sym (accepted_is old c.apply.new.self m c.args.event.now c.in_ok-answer.answer c.in_ok-answer.back no_row h (omega arith) c.in_ok-answer.ensures.event)) refl) in
    λ m h. record { same = all ∙ c.self.view_is; why = λ o. absurd (o refl); late = λ o. accepted m h }

pub returns-in-Ok-clause-copy : goal.returns-in-Ok-clause-copy
returns-in-Ok-clause-copy c =
    let told : c.in-Ok.told ≡ (c.in_ok-answer.answer, cond c.args.with_copy (Some c.in_ok-answer.answer) None) = c.in-Ok.ensures.told in
    ap (λ (t : Answer × Option Answer). t.1) told ∙ ap (λ (a : Answer). cond c.args.with_copy (Some a) None) (sym (ap (λ (t : Answer × Option Answer). t.0) told))
