use Rattle.esx_check.proofs.LawLemmas.{told_is_same}
use Rattle.esx_check.proofs.laws.told_log_is_same.Goals as goal

pub returns : goal.returns
returns c = told_is_same
