use Rattle.esx_formulas.proofs.TargetLaws.{targets_for}
use Rattle.esx_formulas.proofs.laws.targets_for_each_need.Goals as goal

pub returns : goal.returns
returns c = λ rows need are.
    let some = targets_for rows are need in (some.targets, some.hold)
