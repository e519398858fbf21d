use Rattle.esx_text.proofs.OneSplit.{one_split}
use Rattle.esx_text.proofs.laws.one_split.Goals as goal

pub returns : goal.returns
returns c = λ text ended others rest last a b. one_split text ended others rest last a b
