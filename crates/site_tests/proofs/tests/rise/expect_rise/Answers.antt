use Rattle.std.proofs.Common.{◌≡◌, ℕ, ◌+◌, ◌^◌, ◌<◌, get_or, sym, ap, ◌∙◌, below_more, arith, Some, None}
use Rattle.esx_model.specs.declared.book.Book.{Book}
use Rattle.esx_model.specs.declared.book.VmRow.{VmRow}
use Rattle.esx_machine.proofs.Loops.{item_there}
use Rattle.esx_machine.proofs.Read.{rise_told}
use Rattle.site_tests.proofs.tests.rise.expect_rise.Goals as goal

pub returns : goal.returns
returns g c =
    rise_told c.args.machine.now.tables c.as_slice-vm-items.result.now (c.as_slice-vm-items.ensures ∙ ap (λ (b : Book). b.vms) c.in_ok-book.ensures) (λ k below v h. c.loop-vm.invariant k (omega arith) v h)

pub loop-vm-preserved : goal.loop-vm-preserved
loop-vm-preserved g c =
    let xs = c.as_slice-vm-items.result.now in
    let there = item_there xs c.loop-vm.vm-index c.vm-item.result (omega arith) c.vm-item.is in
    let P : ℕ → Type 0 = λ k. (v : VmRow) → get_or xs k None ≡ Some v → v.epoch + 1 < 2 ^ 32 in
    below_more P c.loop-vm.vm-index c.loop-vm.invariant (λ v h. c.expect_low.ensures v (sym there ∙ h))
