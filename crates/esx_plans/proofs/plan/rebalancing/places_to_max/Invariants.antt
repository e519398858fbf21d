use Rattle.std.proofs.Common.{◌≡◌, ◌++◌, drop}
use Rattle.esx_plans.specs.plan.Ratios.{numbered}
use Rattle.esx_plans.specs.plan.Rebalancing.{to_max}
use Rattle.esx_plans.proofs.plan.rebalancing.places_to_max.Given as goal

abbrev pub invariant-loop-number : goal.invariant-loop-number
invariant-loop-number l = l.changes.items ++ numbered to_max l.number (drop l.number l.vms) ≡ numbered to_max 0 l.vms
