use Rattle.std.proofs.Common.{inl, inr, refl}
use Rattle.esx_check.proofs.GateLemmas.{some_none, on_err}
use Rattle.esx_check.proofs.text.diff_text_through.Goals as goal

pub returns-in_err-site-clause-some : goal.returns-in_err-site-clause-some
returns-in_err-site-clause-some g c = on_err c.from_residual.result (some_none _ _ _ (inl refl))

pub returns-in_default-clause-some : goal.returns-in_default-clause-some
returns-in_default-clause-some g c = some_none _ _ _ (inl refl)

pub returns-in_err-site-clause-bad : goal.returns-in_err-site-clause-bad
returns-in_err-site-clause-bad g c = λ line is. some_none _ _ _ (inl (refl, c.in_err-site.ensures.none))

pub returns-clause-bad : goal.returns-clause-bad
returns-clause-bad g c = λ line is. c.diff_as_read.ensures.bad c.args.text.now c.in_ok-site.site line c.in_ok-site.ensures.ok c.in-Ok.ensures.answers is

pub returns-in_err-site-clause-wants : goal.returns-in_err-site-clause-wants
returns-in_err-site-clause-wants g c = λ is. some_none _ _ _ (inl refl)

pub returns-in_default-clause-wants : goal.returns-in_default-clause-wants
returns-in_default-clause-wants g c = λ is. some_none _ _ _ (inl refl)

pub returns-clause-wants : goal.returns-clause-wants
returns-clause-wants g c = λ is.
    let ran = c.diff_as_read.ensures.wants c.args.text.now c.in_ok-site.site c.in_ok-site.ensures.ok c.in-Ok.ensures.answers is in
    (ran.0, inr ran.1, ran.2)
