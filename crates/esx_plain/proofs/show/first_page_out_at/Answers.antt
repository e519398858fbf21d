use Rattle.std.proofs.Common.{sym, ap, ◌∙◌, None, arith}
use Rattle.std.specs.List.{find, flat_map}
use Rattle.std.proofs.lemmas.List.{get_or_read}
use Rattle.esx_model.specs.Places.{is_out_at}
use Rattle.esx_model.specs.Site.{vm_places, all_places}
use Rattle.esx_steps.proofs.Finds.{find_more, find_there}
use Rattle.esx_plain.proofs.show.first_page_out_at.Goals as goal

pub returns-in-Some : goal.returns-in-Some
unfolding all_places
returns-in-Some c =
    let vms = c.as_slice-vm-items.result.now in
    let item = get_or_read vms c.loop-vm.vm-index c.vm-item.result (omega arith) c.vm-item.is None in
    sym (find_there (is_out_at c.args.slot) vm_places vms c.loop-vm.vm-index None c.in-Some.place.now (omega arith) c.loop-vm.invariant (ap (λ o. find (is_out_at c.args.slot) (vm_places o)) (sym item) ∙ sym c.in-Some.ensures))
    ∙ ap (λ all. find (is_out_at c.args.slot) (flat_map vm_places all)) c.as_slice-vm-items.ensures

pub loop-vm-preserved : goal.loop-vm-preserved
loop-vm-preserved c =
    let vms = c.as_slice-vm-items.result.now in
    let item = get_or_read vms c.loop-vm.vm-index c.vm-item.result (omega arith) c.vm-item.is None in
    find_more (is_out_at c.args.slot) vm_places vms c.loop-vm.vm-index None (omega arith) c.loop-vm.invariant ∙ ap (λ o. find (is_out_at c.args.slot) (vm_places o)) (sym item) ∙ sym c.in_default.ensures
