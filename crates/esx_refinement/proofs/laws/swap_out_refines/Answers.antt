use Rattle.esx_refinement.proofs.refines.Paging.{swap_out_refines}
use Rattle.esx_refinement.proofs.laws.swap_out_refines.Goals as goal

pub returns : goal.returns
returns c = swap_out_refines
