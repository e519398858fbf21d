use Rattle.esx_scenario.proofs.StrangeLemmas.{none_is_strange, one_is_strange}
use Rattle.esx_scenario.proofs.strange.check_keys.Goals as goal

pub returns-in-Ok-None : goal.returns-in-Ok-None
returns-in-Ok-None c = none_is_strange _ (rw c.in-Ok-None.field-0-is at c.in-Ok-None.ensures)

pub returns-in-Ok-Some : goal.returns-in-Ok-Some
returns-in-Ok-Some c = one_is_strange _ _ (rw c.in-Ok-Some.field-0-is at c.in-Ok-Some.ensures)
