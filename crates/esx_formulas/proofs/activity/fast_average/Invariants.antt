use Rattle.std.proofs.Common.{◌≡◌, ◌≤◌, take}
use Rattle.esx_formulas.specs.declared.activity.TheConstants.{WHOLE}
use Rattle.esx_formulas.specs.Average.{fast_average}
use Rattle.esx_formulas.proofs.activity.fast_average.Given as goal

abbrev pub invariant-loop-estimate : goal.invariant-loop-estimate
invariant-loop-estimate l = (l.fast ≡ fast_average (take l.estimate-index l.closed)) × (l.fast ≤ WHOLE)
