use Rattle.esx_refinement.proofs.refines.Sampling.{sample_refines}
use Rattle.esx_refinement.proofs.laws.sample_refines.Goals as goal

pub returns : goal.returns
returns c = sample_refines
