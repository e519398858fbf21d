use Rattle.esx_model.proofs.EverySound.{opening_sound}
use Rattle.esx_model.proofs.laws.opening_is_sound.Goals as goal

pub returns : goal.returns
returns c = opening_sound
