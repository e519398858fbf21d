use Rattle.std.proofs.Common.{◌≡◌, ◌*◌, ◌^◌, ◌≤◌, take, sum_by}
use Rattle.esx_model.specs.Site.{memory_reserve}
use Rattle.esx_steps.proofs.site.memory_reserved.Given as goal

abbrev pub invariant-loop-vm : goal.invariant-loop-vm
invariant-loop-vm l = record {
  so_far : l.total ≡ sum_by memory_reserve (take l.vm-index l.vm-items);
  small : l.total ≤ l.vm-index * 2 ^ 33;
}
