use Rattle.esx_advice.proofs.Ending.{goes_on}
use Rattle.esx_advice.proofs.laws.advice_goes_on.Goals as goal

pub returns : goal.returns
returns g = goes_on
