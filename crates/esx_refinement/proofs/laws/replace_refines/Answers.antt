use Rattle.esx_refinement.proofs.refines.Replacing.{replace_refines}
use Rattle.esx_refinement.proofs.laws.replace_refines.Goals as goal

pub returns : goal.returns
returns c = replace_refines
