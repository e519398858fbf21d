use Rattle.esx_check.proofs.LawLemmas.{same_is_told}
use Rattle.esx_check.proofs.laws.same_is_told_log.Goals as goal

pub returns : goal.returns
returns c = λ site entries same. same_is_told site entries same.1
