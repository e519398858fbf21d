use Rattle.esx_sums.proofs.Smallness.{present_small}
use Rattle.esx_sums.proofs.laws.present_is_small.Goals as goal

pub returns : goal.returns
returns c = present_small
