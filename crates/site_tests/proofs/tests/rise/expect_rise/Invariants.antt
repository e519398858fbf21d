use Rattle.std.proofs.Common.{◌≡◌, ℕ, ◌+◌, ◌^◌, ◌<◌, get_or, Some, None}
use Rattle.esx_model.specs.declared.book.VmRow.{VmRow}
use Rattle.site_tests.proofs.tests.rise.expect_rise.Given as goal

abbrev pub invariant-loop-vm : goal.invariant-loop-vm
invariant-loop-vm g l = (k : ℕ) → k < l.vm-index → (v : VmRow) → get_or l.vm-items k None ≡ Some v → v.epoch + 1 < 2 ^ 32
