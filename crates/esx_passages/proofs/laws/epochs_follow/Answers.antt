use Rattle.esx_passages.proofs.Complete.{epochs_follow}
use Rattle.esx_passages.proofs.laws.epochs_follow.Goals as goal

pub returns : goal.returns
returns c = epochs_follow
