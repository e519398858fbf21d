use Rattle.esx_figures.proofs.Stand.{steps_rise, step_once}
use Rattle.esx_figures.proofs.laws.steps_rise.Goals as goal

pub returns-clause-order : goal.returns-clause-order
returns-clause-order c = steps_rise

pub returns-clause-once : goal.returns-clause-once
returns-clause-once c = step_once
