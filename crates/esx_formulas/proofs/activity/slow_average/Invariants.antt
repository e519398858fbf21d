use Rattle.std.proofs.Common.{◌≡◌, ◌≤◌, take}
use Rattle.esx_formulas.specs.declared.activity.TheConstants.{WHOLE}
use Rattle.esx_formulas.specs.Average.{slow_average}
use Rattle.esx_formulas.proofs.activity.slow_average.Given as goal

abbrev pub invariant-loop-estimate : goal.invariant-loop-estimate
invariant-loop-estimate l = (l.slow ≡ slow_average (take l.estimate-index l.closed)) × (l.slow ≤ WHOLE)
