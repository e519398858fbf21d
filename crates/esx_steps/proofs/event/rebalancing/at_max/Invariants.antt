use Rattle.std.proofs.Common.{◌≡◌, ◌++◌, length, map, option_map}
use Rattle.esx_model.specs.event.Rebalancing.{at_max}
use Rattle.esx_steps.proofs.event.rebalancing.at_max.Given as goal

abbrev pub invariant-loop-rest : goal.invariant-loop-rest
invariant-loop-rest l = l.done.items ++ map (option_map at_max) l.rest.items ≡ map (option_map at_max) l.fn.vms.items

abbrev pub decreases-loop-rest : goal.decreases-loop-rest
decreases-loop-rest l = length l.rest.items
