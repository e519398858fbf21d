use Rattle.std.proofs.Common.{◌≡◌, take, None}
use Rattle.std.specs.List.{flat_map, find}
use Rattle.esx_model.specs.Places.{is_here_at}
use Rattle.esx_model.specs.Site.{vm_places}
use Rattle.esx_plain.proofs.show.first_page_in.Given as goal

abbrev pub invariant-loop-vm : goal.invariant-loop-vm
invariant-loop-vm l = find (is_here_at l.frame) (flat_map vm_places (take l.vm-index l.vm-items)) ≡ None
