use Rattle.std.proofs.lemmas.Result.{err_from_is_err_and}
use Rattle.esx_session.proofs.StopLemmas.{no_opening, lost_opening}
use Rattle.esx_session.proofs.calls.open_calls.Goals as goal

pub returns-in_err-version-clause-only : goal.returns-in_err-version-clause-only
returns-in_err-version-clause-only c =
    let p = err_from_is_err_and c.from_residual.result c.from_residual.ensures.1 in
    rw (p.1, p.2) (no_opening c.in_err-version.field-0.0 c.args.text.now (rw c.start-place.ensures.left at c.in_err-version.ensures.only))

pub returns-in_err-version-clause-none : goal.returns-in_err-version-clause-none
returns-in_err-version-clause-none c =
    let p = err_from_is_err_and c.from_residual.result c.from_residual.ensures.1 in
    rw p.1 (λ opening. lost_opening c.in_err-version.field-0.0 c.args.text.now (rw c.start-place.ensures.left at c.in_err-version.ensures.only) opening)
