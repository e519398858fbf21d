use Rattle.std.proofs.Common.{◌∙◌, sym}
use Rattle.esx_session.proofs.SiteLemmas.{site_fields, checked_some, checked_none}
use Rattle.esx_session.proofs.site.site_of.Goals as goal

pub returns-in_err-site-clause-none : goal.returns-in_err-site-clause-none
returns-in_err-site-clause-none c = rw c.from_residual.ensures
    (λ site is. c.in_err-site.ensures.none site is.range (c.of.ensures ∙ site_fields c.args.line.now site is))

pub returns-clause-some : goal.returns-clause-some
returns-clause-some c = checked_some c.args.line.now c.in_ok-site.site c.check.result c.ok.result c.ok.ensures.value c.check.ensures.ok.0 c.check.ensures.same
    (sym c.of.ensures ∙ c.in_ok-site.ensures.some)

pub returns-clause-none : goal.returns-clause-none
returns-clause-none c = checked_none c.args.line.now c.in_ok-site.site c.check.result c.ok.result c.ok.ensures.value c.check.ensures.ok.1 c.in_ok-site.ensures.small
    (sym c.of.ensures ∙ c.in_ok-site.ensures.some)
