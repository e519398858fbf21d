use Rattle.esx_refinement.proofs.refines.Event.{plannable, plan_refines}
use Rattle.esx_refinement.proofs.laws.events_refine.Goals as goal

pub returns-clause-whole : goal.returns-clause-whole
returns-clause-whole c = plannable

pub returns-clause-plan : goal.returns-clause-plan
returns-clause-plan c = plan_refines
