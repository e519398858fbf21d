use Rattle.esx_model.proofs.EverySound.{every_run_sound}
use Rattle.esx_model.proofs.laws.each_path_is_sound.Goals as goal

pub returns : goal.returns
returns c = every_run_sound
