use Rattle.esx_refinement.proofs.refines.Rebalancing.{tax_refines, vm_tax_refines, shares_refines}
use Rattle.esx_refinement.proofs.refines.Leaving.{stop_refines}
use Rattle.esx_refinement.proofs.laws.settings_refine.Goals as goal

pub returns-clause-tax : goal.returns-clause-tax
returns-clause-tax c = tax_refines

pub returns-clause-own : goal.returns-clause-own
returns-clause-own c = vm_tax_refines

pub returns-clause-shares : goal.returns-clause-shares
returns-clause-shares c = shares_refines

pub returns-clause-stop : goal.returns-clause-stop
returns-clause-stop c = stop_refines
