use Rattle.esx_text.proofs.OwnLemmas.{own_is_no_call}
use Rattle.esx_text.proofs.laws.no_own_call.Goals as goal

pub returns : goal.returns
returns c = λ word call is. own_is_no_call word call is
