use Rattle.std.proofs.Common.{ℕ, ◌≡◌, ◌+◌, ◌*◌, ◌≤◌, ◌<◌, drop, slice_index}
use Rattle.esx_types.specs.declared.config.TheConstants.{MAX_PAGES}
use Rattle.esx_formulas.specs.Ratio.{row_at}
use Rattle.esx_average.specs.Bulk.{kept, dearer}
use Rattle.esx_average.proofs.bulk.count_dearer.Given as goal

abbrev pub invariant-loop-i : goal.invariant-loop-i
invariant-loop-i l = record {
  value : l.count + dearer (drop l.i l.rows) l.limit (drop l.i l.targets) ≡ dearer l.rows l.limit l.targets;
  most : l.count ≤ l.i * MAX_PAGES;
  each : (k : ℕ) → k < l.i → slice_index l.keeps k ≡ kept (row_at l.rows k) l.limit (slice_index l.targets k);
}
