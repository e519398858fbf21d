use Rattle.esx_scenario.proofs.KeyLemmas.{given_none, given_some, given_unfit}
use Rattle.esx_scenario.proofs.keys.given_number.Goals as goal

pub returns-in_default-clause-exact : goal.returns-in_default-clause-exact
returns-in_default-clause-exact c = given_none _ _ _ _ c.in_default.ensures

pub returns-in_default-number_within-clause-exact : goal.returns-in_default-number_within-clause-exact
returns-in_default-number_within-clause-exact c = given_unfit _ _ _ _ _ c.in-Some.ensures c.in_default-number_within.ensures.exact

pub returns-clause-exact : goal.returns-clause-exact
returns-clause-exact c = given_some _ _ _ _ _ _ c.in-Some.ensures c.in-Some-number_within.ensures.exact
