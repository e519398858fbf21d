use Rattle.std.proofs.Common.{◌*◌, ◌≤◌}
use Rattle.esx_types.specs.declared.config.TheConstants.{MAX_PAGES}
use Rattle.esx_average.specs.declared.limit.TheConstants.{MOST_RATE}
use Rattle.esx_average.proofs.limit.sums_of.Given as goal

abbrev pub invariant-loop-i : goal.invariant-loop-i
invariant-loop-i l = record {
  pages : l.sums.pages ≤ l.i * MAX_PAGES;
  rate : l.sums.rate ≤ l.i * MOST_RATE;
}
