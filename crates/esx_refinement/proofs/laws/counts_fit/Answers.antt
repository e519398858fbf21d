use Rattle.esx_refinement.proofs.Countable.{counts_fit}
use Rattle.esx_refinement.proofs.laws.counts_fit.Goals as goal

pub returns : goal.returns
returns c = counts_fit
