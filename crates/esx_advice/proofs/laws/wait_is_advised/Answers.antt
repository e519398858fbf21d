use Rattle.esx_advice.proofs.Waiting.{wait_advised}
use Rattle.esx_advice.proofs.laws.wait_is_advised.Goals as goal

pub returns : goal.returns
returns g = wait_advised
