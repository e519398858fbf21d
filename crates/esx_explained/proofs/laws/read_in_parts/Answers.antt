use Rattle.esx_explained.proofs.InputLemmas.{after_append}
use Rattle.esx_explained.proofs.laws.read_in_parts.Goals as goal

pub returns : goal.returns
returns c = λ r one other. after_append r one other
