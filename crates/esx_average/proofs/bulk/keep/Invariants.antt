use Rattle.std.proofs.Common.{ℕ, ◌≡◌, ◌<◌, length, slice_index}
use Rattle.esx_average.proofs.bulk.keep.Given as goal

abbrev pub invariant-loop-i : goal.invariant-loop-i
invariant-loop-i l = record {
  count : length l.targets.items ≡ length l.rows;
  done : (k : ℕ) → k < l.i → slice_index l.targets.items k ≡ slice_index l.keeps k;
}
