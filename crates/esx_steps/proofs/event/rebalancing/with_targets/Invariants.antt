use Rattle.std.proofs.Common.{◌≡◌, ◌++◌, ◌≤◌, drop, length}
use Rattle.esx_model.specs.event.Rebalancing.{with_targets}
use Rattle.esx_steps.proofs.event.rebalancing.with_targets.Given as goal

abbrev pub invariant-loop-rest : goal.invariant-loop-rest
invariant-loop-rest l = record {
  told : l.done.items ++ with_targets l.rest.items (drop l.used l.targets) ≡ with_targets l.fn.vms.items l.targets;
  within : l.used ≤ length l.targets;
}

abbrev pub decreases-loop-rest : goal.decreases-loop-rest
decreases-loop-rest l = length l.rest.items
