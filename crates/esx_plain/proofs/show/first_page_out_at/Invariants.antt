use Rattle.std.proofs.Common.{◌≡◌, take, None}
use Rattle.std.specs.List.{flat_map, find}
use Rattle.esx_model.specs.Site.{vm_places}
use Rattle.esx_model.specs.Places.{is_out_at}
use Rattle.esx_plain.proofs.show.first_page_out_at.Given as goal

abbrev pub invariant-loop-vm : goal.invariant-loop-vm
invariant-loop-vm l = find (is_out_at l.slot) (flat_map vm_places (take l.vm-index l.vm-items)) ≡ None
