use Rattle.std.proofs.Common.{refl}
use Rattle.esx_scenario.proofs.KeyLemmas.{refuses, then_ok, then_err}
use Rattle.esx_scenario.proofs.site.levels_of.Goals as goal

pub returns-in_err-high-clause-exact : goal.returns-in_err-high-clause-exact
returns-in_err-high-clause-exact c = refuses _ _ _ c.from_residual.ensures.1 (then_err _ _ _ c.in_err-high.ensures.exact)

pub returns-in_err-soft-clause-exact : goal.returns-in_err-soft-clause-exact
returns-in_err-soft-clause-exact c = refuses _ _ _ c.from_residual-in_err-soft.ensures.1 (then_ok _ _ _ _ c.in_ok-high.ensures.exact (then_err _ _ _ c.in_err-soft.ensures.exact))

pub returns-in_err-hard-clause-exact : goal.returns-in_err-hard-clause-exact
returns-in_err-hard-clause-exact c = refuses _ _ _ c.from_residual-in_err-hard.ensures.1 (then_ok _ _ _ _ c.in_ok-high.ensures.exact (then_ok _ _ _ _ c.in_ok-soft.ensures.exact (then_err _ _ _ c.in_err-hard.ensures.exact)))

pub returns-in_err-low-clause-exact : goal.returns-in_err-low-clause-exact
returns-in_err-low-clause-exact c = refuses _ _ _ c.from_residual-in_err-low.ensures.1 (then_ok _ _ _ _ c.in_ok-high.ensures.exact (then_ok _ _ _ _ c.in_ok-soft.ensures.exact (then_ok _ _ _ _ c.in_ok-hard.ensures.exact (then_err _ _ _ c.in_err-low.ensures.exact))))

pub returns-clause-exact : goal.returns-clause-exact
returns-clause-exact c = then_ok _ _ _ _ c.in_ok-high.ensures.exact (then_ok _ _ _ _ c.in_ok-soft.ensures.exact (then_ok _ _ _ _ c.in_ok-hard.ensures.exact (then_ok _ _ _ _ c.in_ok-low.ensures.exact refl)))
