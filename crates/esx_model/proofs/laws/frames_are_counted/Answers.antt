use Rattle.esx_model.proofs.Counts.{frames_counted}
use Rattle.esx_model.proofs.laws.frames_are_counted.Goals as goal

pub returns : goal.returns
returns c = frames_counted
