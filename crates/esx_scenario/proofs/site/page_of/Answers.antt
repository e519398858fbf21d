use Rattle.esx_scenario.proofs.KeyLemmas.{refuses, then_ok, then_err, whole_page_ok, whole_page_err}
use Rattle.esx_scenario.proofs.site.page_of.Goals as goal

pub returns-in_err-page-clause-exact : goal.returns-in_err-page-clause-exact
returns-in_err-page-clause-exact c = refuses _ _ _ c.from_residual.ensures.1 (then_err _ _ _ c.in_err-page.ensures.exact)

pub returns-then-page-eq0-clause-exact : goal.returns-then-page-eq0-clause-exact
returns-then-page-eq0-clause-exact c = then_ok _ _ _ _ c.in_ok-page.ensures.exact (whole_page_ok _ c.if-page-eq0.true)

pub returns-else-page-eq0-clause-exact : goal.returns-else-page-eq0-clause-exact
returns-else-page-eq0-clause-exact c = then_ok _ _ _ _ c.in_ok-page.ensures.exact (whole_page_err _ c.if-page-eq0.false)
