use Rattle.esx_formulas.proofs.TargetLaws.{targets_same}
use Rattle.esx_formulas.proofs.laws.one_list_of_targets.Goals as goal

pub returns : goal.returns
returns c = λ rows need a b are. targets_same rows are need a b
