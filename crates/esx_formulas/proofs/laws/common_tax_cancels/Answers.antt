use Rattle.esx_formulas.proofs.CommonTax.{same_payer, same_targets}
use Rattle.esx_formulas.proofs.laws.common_tax_cancels.Goals as goal

pub returns : goal.returns
returns c = record { payer = same_payer; targets = same_targets }
