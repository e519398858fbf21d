use Rattle.std.proofs.Common.{sym, ◌∙◌}
use Rattle.esx_scenario.proofs.GuestLemmas.{tau_given, tau_none}
use Rattle.esx_scenario.proofs.guests.tau_of.Goals as goal

pub returns-then-not-has_own_taxes-clause-exact : goal.returns-then-not-has_own_taxes-clause-exact
returns-then-not-has_own_taxes-clause-exact c = tau_none _ _ (sym c.has_own_taxes.ensures ∙ c.if-not-has_own_taxes.true)

pub returns-in-Ok-Some-clause-exact : goal.returns-in-Ok-Some-clause-exact
returns-in-Ok-Some-clause-exact c = tau_given _ _ (sym c.has_own_taxes.ensures ∙ c.if-not-has_own_taxes.false) ∙ rw c.in-Ok-Some.field-0-is at c.in-Ok-Some.ensures.exact

pub returns-in-Ok-None-clause-exact : goal.returns-in-Ok-None-clause-exact
returns-in-Ok-None-clause-exact c = tau_given _ _ (sym c.has_own_taxes.ensures ∙ c.if-not-has_own_taxes.false) ∙ rw c.in-Ok-None.field-0-is at c.in-Ok-None.ensures.exact

pub returns-in-Err-clause-exact : goal.returns-in-Err-clause-exact
returns-in-Err-clause-exact c = tau_given _ _ (sym c.has_own_taxes.ensures ∙ c.if-not-has_own_taxes.false) ∙ c.in-Err.ensures.exact
