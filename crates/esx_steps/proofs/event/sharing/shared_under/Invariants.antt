use Rattle.std.proofs.Common.{◌≡◌, take, None}
use Rattle.std.specs.List.{flat_map, find}
use Rattle.esx_model.specs.Site.{vm_places}
use Rattle.esx_model.specs.event.Sharing.{is_shared_under}
use Rattle.esx_steps.proofs.event.sharing.shared_under.Given as goal

abbrev pub invariant-loop-vm : goal.invariant-loop-vm
invariant-loop-vm l = find (is_shared_under l.key) (flat_map vm_places (take l.vm-index l.vm-items)) ≡ None
