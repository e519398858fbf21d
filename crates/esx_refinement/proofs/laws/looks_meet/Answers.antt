use Rattle.esx_refinement.proofs.Looks.{look_shown}
use Rattle.esx_refinement.proofs.laws.looks_meet.Goals as goal

pub returns : goal.returns
returns c = look_shown
