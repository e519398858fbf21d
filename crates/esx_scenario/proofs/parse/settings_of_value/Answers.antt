use Rattle.std.proofs.Common.{refl, ◌∙◌}
use Rattle.esx_scenario.proofs.GuestLemmas.{gives_err, settings_none, settings_table, settings_other, below_ok, below_err}
use Rattle.esx_scenario.proofs.parse.settings_of_value.Goals as goal

pub returns-in_default-clause-exact : goal.returns-in_default-clause-exact
returns-in_default-clause-exact c = settings_none _ (rw c.in_default.is refl)

pub returns-in_default-as_table-clause-exact : goal.returns-in_default-as_table-clause-exact
returns-in_default-as_table-clause-exact c = gives_err _ _ _ (settings_other _ _ (rw c.in-Some.is refl) c.in_default-as_table.ensures) c.bad_key.ensures

pub returns-in-Ok-clause-exact : goal.returns-in-Ok-clause-exact
returns-in-Ok-clause-exact c = settings_table _ _ _ (rw c.in-Some.is refl) c.in-Some-as_table.ensures ∙ below_ok _ _ _ c.in-Ok.ensures.exact

pub returns-in-Err-clause-exact : goal.returns-in-Err-clause-exact
returns-in-Err-clause-exact c = gives_err _ _ _ (settings_table _ _ _ (rw c.in-Some.is refl) c.in-Some-as_table.ensures ∙ below_err _ _ _ c.in-Err.ensures.exact) c.bad_key-in-Err.ensures
