use Rattle.esx_refinement.proofs.refines.Starting.{start_refines}
use Rattle.esx_refinement.proofs.laws.start_refines.Goals as goal

pub returns : goal.returns
returns c = start_refines
