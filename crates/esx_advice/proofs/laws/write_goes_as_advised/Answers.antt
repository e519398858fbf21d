use Rattle.esx_advice.proofs.AdviceTaken.{go_is_accepted}
use Rattle.esx_advice.proofs.laws.write_goes_as_advised.Goals as goal

pub returns : goal.returns
returns c = go_is_accepted
