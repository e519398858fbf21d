use Rattle.std.proofs.Common.{◌≡◌, ◌^◌, ◌-◌, take, sum_by, min}
use Rattle.esx_formulas.specs.Targets.{spare}
use Rattle.esx_steps.proofs.event.rebalancing.spare.Given as goal

abbrev pub invariant-loop-row : goal.invariant-loop-row
invariant-loop-row l = l.total ≡ min (sum_by spare (take l.row-index l.rows)) (2 ^ 64 - 1)
