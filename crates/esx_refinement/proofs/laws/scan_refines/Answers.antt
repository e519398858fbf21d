use Rattle.esx_refinement.proofs.refines.Sharing.{scan_refines}
use Rattle.esx_refinement.proofs.laws.scan_refines.Goals as goal

pub returns : goal.returns
returns c = scan_refines
