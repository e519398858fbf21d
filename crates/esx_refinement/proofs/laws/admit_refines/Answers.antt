use Rattle.esx_refinement.proofs.refines.Admission.{has_places, admit_refines}
use Rattle.esx_refinement.proofs.laws.admit_refines.Goals as goal

pub returns-clause-places : goal.returns-clause-places
returns-clause-places c = has_places

pub returns-clause-plan : goal.returns-clause-plan
returns-clause-plan c = admit_refines
