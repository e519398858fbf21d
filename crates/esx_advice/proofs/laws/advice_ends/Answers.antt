use Rattle.esx_advice.proofs.Ending.{advice_leads_to_go}
use Rattle.esx_advice.proofs.laws.advice_ends.Goals as goal

pub returns : goal.returns
returns g = advice_leads_to_go
