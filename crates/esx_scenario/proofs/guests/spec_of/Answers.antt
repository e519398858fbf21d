use Rattle.std.proofs.Common.{refl}
use Rattle.esx_scenario.proofs.KeyLemmas.{refuses, then_ok, then_err}
use Rattle.esx_scenario.proofs.guests.spec_of.Goals as goal

pub returns-in_err-min-clause-exact : goal.returns-in_err-min-clause-exact
returns-in_err-min-clause-exact c = refuses _ _ _ c.from_residual.ensures.1 (then_err _ _ _ c.in_err-min.ensures.exact)

pub returns-in_err-max-clause-exact : goal.returns-in_err-max-clause-exact
returns-in_err-max-clause-exact c = refuses _ _ _ c.from_residual-in_err-max.ensures.1 (then_ok _ _ _ _ c.in_ok-min.ensures.exact (then_err _ _ _ c.in_err-max.ensures.exact))

pub returns-in_err-overhead-clause-exact : goal.returns-in_err-overhead-clause-exact
returns-in_err-overhead-clause-exact c = refuses _ _ _ c.from_residual-in_err-overhead.ensures.1 (then_ok _ _ _ _ c.in_ok-min.ensures.exact (then_ok _ _ _ _ c.in_ok-max.ensures.exact (then_err _ _ _ c.in_err-overhead.ensures.exact)))

pub returns-in_err-shares-clause-exact : goal.returns-in_err-shares-clause-exact
returns-in_err-shares-clause-exact c = refuses _ _ _ c.from_residual-in_err-shares.ensures.1 (then_ok _ _ _ _ c.in_ok-min.ensures.exact (then_ok _ _ _ _ c.in_ok-max.ensures.exact (then_ok _ _ _ _ c.in_ok-overhead.ensures.exact (then_err _ _ _ c.in_err-shares.ensures.exact))))

pub returns-in_err-balloon-clause-exact : goal.returns-in_err-balloon-clause-exact
returns-in_err-balloon-clause-exact c = refuses _ _ _ c.from_residual-in_err-balloon.ensures.1 (then_ok _ _ _ _ c.in_ok-min.ensures.exact (then_ok _ _ _ _ c.in_ok-max.ensures.exact (then_ok _ _ _ _ c.in_ok-overhead.ensures.exact (then_ok _ _ _ _ c.in_ok-shares.ensures.exact (then_err _ _ _ c.in_err-balloon.ensures.exact)))))

pub returns-in_err-tau-clause-exact : goal.returns-in_err-tau-clause-exact
returns-in_err-tau-clause-exact c = refuses _ _ _ c.from_residual-in_err-tau.ensures.1 (then_ok _ _ _ _ c.in_ok-min.ensures.exact (then_ok _ _ _ _ c.in_ok-max.ensures.exact (then_ok _ _ _ _ c.in_ok-overhead.ensures.exact (then_ok _ _ _ _ c.in_ok-shares.ensures.exact (then_ok _ _ _ _ c.in_ok-balloon.ensures.exact (then_err _ _ _ c.in_err-tau.ensures.exact))))))

pub returns-clause-exact : goal.returns-clause-exact
returns-clause-exact c = then_ok _ _ _ _ c.in_ok-min.ensures.exact (then_ok _ _ _ _ c.in_ok-max.ensures.exact (then_ok _ _ _ _ c.in_ok-overhead.ensures.exact (then_ok _ _ _ _ c.in_ok-shares.ensures.exact (then_ok _ _ _ _ c.in_ok-balloon.ensures.exact (then_ok _ _ _ _ c.in_ok-tau.ensures.exact refl)))))
