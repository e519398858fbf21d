use Rattle.esx_figures.proofs.Alike.{same_alike}
use Rattle.esx_figures.proofs.laws.same_is_alike.Goals as goal

pub returns : goal.returns
returns c = same_alike
