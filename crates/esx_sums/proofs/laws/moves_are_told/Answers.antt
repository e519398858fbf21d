use Rattle.esx_sums.proofs.Moved.{move_told}
use Rattle.esx_sums.proofs.laws.moves_are_told.Goals as goal

pub returns : goal.returns
returns c = move_told
