use Rattle.std.proofs.Common.{◌≡◌, ℕ, Some, length, slice_get, vec_len}
use Rattle.esx_work.specs.Runs.{Knows}
use Rattle.esx_work.proofs.run.meet_all.Given as goal

abbrev pub invariant-loop-next : goal.invariant-loop-next
invariant-loop-next l =
    ((j : ℕ) (p : _) → slice_get l.passes.items j ≡ Some p → slice_get l.fn.passes.items j ≡ Some p)
    × Knows l.desk l.opened.value l.fn.passes.items (length l.passes.items) l.met

abbrev pub decreases-loop-next : goal.decreases-loop-next
decreases-loop-next l = vec_len l.passes
