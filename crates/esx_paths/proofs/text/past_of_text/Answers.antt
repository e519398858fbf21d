use Rattle.std.proofs.Common.{inl, refl}
use Rattle.esx_check.proofs.GateLemmas.{some_none, on_err}
use Rattle.esx_paths.proofs.text.past_of_text.Goals as goal

pub returns-in_err-site-clause-some : goal.returns-in_err-site-clause-some
returns-in_err-site-clause-some g c = on_err c.from_residual.result (some_none _ _ _ (inl refl))

pub returns-in_err-site-clause-bad : goal.returns-in_err-site-clause-bad
returns-in_err-site-clause-bad g c = λ line is. some_none _ _ _ (inl (refl, c.in_err-site.ensures.none))

pub returns-in_default-clause-some : goal.returns-in_default-clause-some
returns-in_default-clause-some g c = some_none _ _ _ (inl refl)

pub returns-clause-bad : goal.returns-clause-bad
returns-clause-bad g c = λ line is. c.go_through.ensures.bad c.args.text.now c.in_ok-site.site line c.in_ok-site.ensures.ok c.in-Ok-open.ensures.past is

pub returns-in_default-open-clause-some : goal.returns-in_default-open-clause-some
returns-in_default-open-clause-some g c = some_none _ _ _ (inl refl)
