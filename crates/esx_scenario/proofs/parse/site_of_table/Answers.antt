use Rattle.std.proofs.Common.{refl, ◌∙◌}
use Rattle.esx_scenario.proofs.GuestLemmas.{gives_err, site_none, site_table, below_ok, below_err}
use Rattle.esx_scenario.proofs.parse.site_of_table.Goals as goal

pub returns-in_default-clause-exact : goal.returns-in_default-clause-exact
returns-in_default-clause-exact c = gives_err _ _ _ (site_none _ (rw c.in_default.is refl)) c.bad_key.ensures

pub returns-in-Ok-clause-exact : goal.returns-in-Ok-clause-exact
returns-in-Ok-clause-exact c = site_table _ _ (rw c.in-Some.is refl) ∙ below_ok _ _ _ c.in-Ok.ensures.exact

pub returns-in-Err-clause-exact : goal.returns-in-Err-clause-exact
returns-in-Err-clause-exact c = gives_err _ _ _ (site_table _ _ (rw c.in-Some.is refl) ∙ below_err _ _ _ c.in-Err.ensures.exact) c.bad_key-in-Err.ensures
