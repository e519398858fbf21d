use Rattle.esx_refinement.proofs.refines.Rebalancing.{has_ratios, rebalance_refines}
use Rattle.esx_refinement.proofs.laws.rebalance_refines.Goals as goal

pub returns-clause-ratios : goal.returns-clause-ratios
returns-clause-ratios c = has_ratios

pub returns-clause-plan : goal.returns-clause-plan
returns-clause-plan c = rebalance_refines
