use Rattle.esx_words.proofs.CommandLemmas.{one_call}
use Rattle.esx_words.proofs.laws.one_call.Goals as goal

pub returns : goal.returns
returns c = λ text a b p q. one_call text a b p q
