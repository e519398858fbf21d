use Rattle.std.proofs.Common.{◌≡◌, take}
use Rattle.esx_model.specs.Show.{vm_rows}
use Rattle.esx_plain.proofs.machines.vm_rows.Given as goal

abbrev pub invariant-loop-number : goal.invariant-loop-number
invariant-loop-number l = l.rows ≡ vm_rows (take l.number l.site.vms)
