use Rattle.esx_scenario.proofs.KeyLemmas.{required_found, required_missing}
use Rattle.esx_scenario.proofs.keys.required_number.Goals as goal

pub returns-in-Some-clause-exact : goal.returns-in-Some-clause-exact
returns-in-Some-clause-exact c = required_found _ c.args.key _ _ _ c.number_within.result _ c.in-Some.ensures c.number_within.ensures.exact c.ok_or.ensures.value

pub returns-in-None-clause-exact : goal.returns-in-None-clause-exact
returns-in-None-clause-exact c = required_missing _ _ _ _ c.in-None.ensures
