use Rattle.std.proofs.Common.{refl, sym, ◌∙◌, ap, subst, ℕ, length, Result, arith}
use Rattle.std.specs.Result.{IsOk}
use Rattle.std.proofs.lemmas.Result.{err_from_is_err_and}
use Rattle.esx_events.specs.declared.event.Refusal.{Refusal}
use Rattle.esx_model.specs.Console.{history}
use Rattle.esx_paths.specs.Pasts.{Kept, IsPastOf}
use Rattle.esx_paths.specs.Ways.{LeadsUp}
use Rattle.esx_paths.proofs.Keeping.{if_ok_err}
use Rattle.esx_paths.proofs.Whole.{session_leads_up}
use Rattle.esx_paths.proofs.Sessions.{session_told}
use Rattle.esx_paths.proofs.Asked.{never_wants, node_fits, tells_at}
use Rattle.esx_paths.proofs.past.Past.path_to.Goals as goal

pub returns-in_err-node-clause-path : goal.returns-in_err-node-clause-path
returns-in_err-node-clause-path c = λ s is. if_ok_err c.from_residual.result _ _ (err_from_is_err_and c.from_residual.result c.from_residual.ensures.1).1

pub returns-in_err-node-clause-err : goal.returns-in_err-node-clause-err
returns-in_err-node-clause-err c = λ s is.
    let p = err_from_is_err_and c.from_residual.result c.from_residual.ensures.1 in
    rw (p.1, p.2) (λ other. sym (c.in_err-node.ensures s is))

pub returns-in_err-node-clause-late : goal.returns-in_err-node-clause-late
returns-in_err-node-clause-late c = λ s is wants.
    let p = err_from_is_err_and c.from_residual.result c.from_residual.ensures.1 in
    let out = rw (p.1, p.2) at wants in
    let found = c.in_err-node.ensures s is in
    absurd (never_wants c.args.at (history s) (cc))

pub path_from-requires-clause-up : goal.path_from-requires-clause-up
path_from-requires-clause-up c =
    let kept = c.self.invariant in
    subst LeadsUp (sym kept.is_past.made) (session_leads_up kept.session kept.is_past.answers.journal_holds.tree)

pub path_from-requires-clause-fits : goal.path_from-requires-clause-fits
path_from-requires-clause-fits c =
    let kept = c.self.invariant in
    let P : Kept → Type 0 = λ k. IsPastOf k kept.session in
    let fits = node_fits kept.session c.args.at c.in_ok-node.node (c.in_ok-node.ensures kept.session (subst P c.self.view_is kept.is_past)) in
    let long = ap length kept.is_past.made ∙ (session_told kept.session).long in
    omega (arith, fits, long)

pub returns-in-Ok-clause-path : goal.returns-in-Ok-clause-path
returns-in-Ok-clause-path c = λ s is.
    let P : Kept → Type 0 = λ k. IsPastOf k s in
    tells_at s _ c.args.at c.in_ok-node.node c.in-Ok.path (subst P (sym c.self.view_is) is) (c.in_ok-node.ensures s is) c.in-Ok.ensures

pub returns-in-Err-clause-err : goal.returns-in-Err-clause-err
returns-in-Err-clause-err c = λ s is other. absurd (other refl)

pub returns-in-Err-clause-late : goal.returns-in-Err-clause-late
returns-in-Err-clause-late c = λ s is wants.
    let P : Result ℕ Refusal → Type 0 = IsOk in
    subst P (c.in_ok-node.ensures s is) refl
