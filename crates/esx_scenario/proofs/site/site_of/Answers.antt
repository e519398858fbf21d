use Rattle.std.proofs.Common.{refl}
use Rattle.esx_scenario.proofs.KeyLemmas.{refuses, then_ok, then_err}
use Rattle.esx_scenario.proofs.site.site_of.Goals as goal

pub returns-in_err-frames-clause-exact : goal.returns-in_err-frames-clause-exact
returns-in_err-frames-clause-exact c = refuses _ _ _ c.from_residual.ensures.1 (then_err _ _ _ c.in_err-frames.ensures.exact)

pub returns-in_err-page-clause-exact : goal.returns-in_err-page-clause-exact
returns-in_err-page-clause-exact c = refuses _ _ _ c.from_residual-in_err-page.ensures.1 (then_ok _ _ _ _ c.in_ok-frames.ensures.exact (then_err _ _ _ c.in_err-page.ensures.exact))

pub returns-in_err-slots-clause-exact : goal.returns-in_err-slots-clause-exact
returns-in_err-slots-clause-exact c = refuses _ _ _ c.from_residual-in_err-slots.ensures.1 (then_ok _ _ _ _ c.in_ok-frames.ensures.exact (then_ok _ _ _ _ c.in_ok-page.ensures.exact (then_err _ _ _ c.in_err-slots.ensures.exact)))

pub returns-in_err-tau-clause-exact : goal.returns-in_err-tau-clause-exact
returns-in_err-tau-clause-exact c = refuses _ _ _ c.from_residual-in_err-tau.ensures.1 (then_ok _ _ _ _ c.in_ok-frames.ensures.exact (then_ok _ _ _ _ c.in_ok-page.ensures.exact (then_ok _ _ _ _ c.in_ok-slots.ensures.exact (then_err _ _ _ c.in_err-tau.ensures.exact))))

pub returns-in_err-levels-clause-exact : goal.returns-in_err-levels-clause-exact
returns-in_err-levels-clause-exact c = refuses _ _ _ c.from_residual-in_err-levels.ensures.1 (then_ok _ _ _ _ c.in_ok-frames.ensures.exact (then_ok _ _ _ _ c.in_ok-page.ensures.exact (then_ok _ _ _ _ c.in_ok-slots.ensures.exact (then_ok _ _ _ _ c.in_ok-tau.ensures.exact (then_err _ _ _ c.in_err-levels.ensures.exact)))))

pub returns-in_err-nodes-clause-exact : goal.returns-in_err-nodes-clause-exact
returns-in_err-nodes-clause-exact c = refuses _ _ _ c.from_residual-in_err-nodes.ensures.1 (then_ok _ _ _ _ c.in_ok-frames.ensures.exact (then_ok _ _ _ _ c.in_ok-page.ensures.exact (then_ok _ _ _ _ c.in_ok-slots.ensures.exact (then_ok _ _ _ _ c.in_ok-tau.ensures.exact (then_ok _ _ _ _ c.in_ok-levels.ensures.exact (then_err _ _ _ c.in_err-nodes.ensures.exact))))))

pub returns-clause-exact : goal.returns-clause-exact
returns-clause-exact c = then_ok _ _ _ _ c.in_ok-frames.ensures.exact (then_ok _ _ _ _ c.in_ok-page.ensures.exact (then_ok _ _ _ _ c.in_ok-slots.ensures.exact (then_ok _ _ _ _ c.in_ok-tau.ensures.exact (then_ok _ _ _ _ c.in_ok-levels.ensures.exact (then_ok _ _ _ _ c.in_ok-nodes.ensures.exact refl)))))
