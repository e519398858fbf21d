use Rattle.esx_formulas.specs.Targets.{first_claim}
use Rattle.esx_formulas.proofs.Claims.{first_found, least_of_found}
use Rattle.esx_formulas.proofs.laws.first_claim_is_least.Goals as goal

pub returns : goal.returns
returns c = λ rows are. least_of_found rows (first_claim rows) (first_found rows are)
