use Rattle.std.proofs.Common.{◌≡◌, ◌^◌, ◌-◌, take, sum_by, min}
use Rattle.esx_model.specs.Site.{pages_of}
use Rattle.esx_steps.proofs.site.pages_at.Given as goal

abbrev pub invariant-loop-vm : goal.invariant-loop-vm
invariant-loop-vm l = l.total ≡ min (sum_by (pages_of l.frame) (take l.vm-index l.vm-items)) (2 ^ 64 - 1)
