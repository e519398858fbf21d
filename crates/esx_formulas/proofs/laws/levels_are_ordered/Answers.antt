use Rattle.esx_formulas.proofs.LevelLaws.{thresholds_ordered, level_step, low_with_none_free}
use Rattle.esx_formulas.proofs.laws.levels_are_ordered.Goals as goal

pub returns : goal.returns
returns c = record { thresholds = thresholds_ordered; step = level_step; none_free = low_with_none_free }
