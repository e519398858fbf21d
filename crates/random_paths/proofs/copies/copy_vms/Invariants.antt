use Rattle.std.proofs.Common.{◌≡◌, take}
use Rattle.random_paths.proofs.copies.copy_vms.Given as goal

abbrev pub invariant-loop-vm : goal.invariant-loop-vm
invariant-loop-vm l = l.copy.items ≡ take l.vm-index l.vms
