use Rattle.std.proofs.Common.{sym, subst}
use Rattle.esx_model.specs.Console.{history, lined}
use Rattle.esx_console.specs.Unlogged.{Kept, AnswersAs}
use Rattle.esx_console.proofs.Unlogging.{told_reply, answers_on, answers_still}
use Rattle.esx_console.proofs.unlogged.Unlogged.call.Goals as goal

pub invariant_of-self : goal.invariant_of-self
invariant_of-self c =
    let some = c.self.invariant in
    (some.0, answers_still some.0 _ _ _ some.1 (c.in_err-heard.ensures.err (history some.0) some.1.journal_holds))

pub invariant_of-self-2 : goal.invariant_of-self-2
invariant_of-self-2 c =
    let some = c.self.invariant in
    let hears = c.in_ok-heard.ensures.ok (history some.0) some.1.journal_holds in
    (lined some.0 0 c.args.call.now, answers_on some.0 _ _ 0 c.args.call.now c.in_ok-heard.heard _ some.1 hears c.counted-jumps.ensures)

pub returns-clause-ok : goal.returns-clause-ok
returns-clause-ok c = λ s answers.
    let P : Kept → Type 0 = λ k. AnswersAs k s in
    let old = subst P (sym c.self.view_is) answers in
    told_reply s _ _ c.args.call.now c.in_ok-heard.heard _ old (c.in_ok-heard.ensures.ok (history s) old.journal_holds) c.counted-jumps.ensures

pub returns-clause-lined : goal.returns-clause-lined
returns-clause-lined c = λ s caller answers.
    let P : Kept → Type 0 = λ k. AnswersAs k s in
    let old = subst P (sym c.self.view_is) answers in
    answers_on s _ _ caller c.args.call.now c.in_ok-heard.heard _ old (c.in_ok-heard.ensures.ok (history s) old.journal_holds) c.counted-jumps.ensures
