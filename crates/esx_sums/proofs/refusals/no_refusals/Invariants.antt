use Rattle.std.proofs.Common.{◌≡◌, replicate}
use Rattle.esx_sums.proofs.refusals.no_refusals.Given as goal

abbrev pub invariant-loop-number : goal.invariant-loop-number
invariant-loop-number l = l.rows.items ≡ replicate l._number 0
