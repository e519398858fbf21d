use Rattle.esx_advice.proofs.Waiting.{read_is_accepted}
use Rattle.esx_advice.proofs.laws.read_goes_as_advised.Goals as goal

pub returns : goal.returns
returns g = read_is_accepted
