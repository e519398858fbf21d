use Rattle.std.proofs.Common.{refl}
use Rattle.esx_scenario.proofs.KeyLemmas.{refuses, then_ok, then_err}
use Rattle.esx_scenario.proofs.site.settings_of.Goals as goal

pub returns-in_err-seed-clause-exact : goal.returns-in_err-seed-clause-exact
returns-in_err-seed-clause-exact c = refuses _ _ _ c.from_residual.ensures.1 (then_err _ _ _ c.in_err-seed.ensures.exact)

pub returns-in_err-turns-clause-exact : goal.returns-in_err-turns-clause-exact
returns-in_err-turns-clause-exact c = refuses _ _ _ c.from_residual-in_err-turns.ensures.1 (then_ok _ _ _ _ c.in_ok-seed.ensures.exact (then_err _ _ _ c.in_err-turns.ensures.exact))

pub returns-in_err-sample-clause-exact : goal.returns-in_err-sample-clause-exact
returns-in_err-sample-clause-exact c = refuses _ _ _ c.from_residual-in_err-sample.ensures.1 (then_ok _ _ _ _ c.in_ok-seed.ensures.exact (then_ok _ _ _ _ c.in_ok-turns.ensures.exact (then_err _ _ _ c.in_err-sample.ensures.exact)))

pub returns-in_err-length-clause-exact : goal.returns-in_err-length-clause-exact
returns-in_err-length-clause-exact c = refuses _ _ _ c.from_residual-in_err-length.ensures.1 (then_ok _ _ _ _ c.in_ok-seed.ensures.exact (then_ok _ _ _ _ c.in_ok-turns.ensures.exact (then_ok _ _ _ _ c.in_ok-sample.ensures.exact (then_err _ _ _ c.in_err-length.ensures.exact))))

pub returns-clause-exact : goal.returns-clause-exact
returns-clause-exact c = then_ok _ _ _ _ c.in_ok-seed.ensures.exact (then_ok _ _ _ _ c.in_ok-turns.ensures.exact (then_ok _ _ _ _ c.in_ok-sample.ensures.exact (then_ok _ _ _ _ c.in_ok-length.ensures.exact refl)))
