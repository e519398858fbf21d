use Rattle.esx_waiting.proofs.Keeps.{no_wake_lost}
use Rattle.esx_waiting.proofs.laws.no_wake_is_lost.Goals as goal

pub returns : goal.returns
returns c = no_wake_lost
