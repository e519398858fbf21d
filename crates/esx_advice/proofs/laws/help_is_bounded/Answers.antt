use Rattle.esx_advice.proofs.Bound.{help_bounded}
use Rattle.esx_advice.proofs.laws.help_is_bounded.Goals as goal

pub returns : goal.returns
returns g = help_bounded
