use Rattle.esx_model.proofs.EverySound.{every_event_sound}
use Rattle.esx_model.proofs.laws.each_event_is_sound.Goals as goal

pub returns : goal.returns
returns c = every_event_sound
