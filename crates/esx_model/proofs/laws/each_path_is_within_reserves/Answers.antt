use Rattle.esx_model.proofs.EverySound.{every_run_within}
use Rattle.esx_model.proofs.laws.each_path_is_within_reserves.Goals as goal

pub returns : goal.returns
returns c = every_run_within
