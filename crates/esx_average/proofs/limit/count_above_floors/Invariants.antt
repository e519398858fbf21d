use Rattle.std.proofs.Common.{◌*◌, ◌≤◌}
use Rattle.esx_types.specs.declared.config.TheConstants.{MAX_PAGES}
use Rattle.esx_average.proofs.limit.count_above_floors.Given as goal

abbrev pub invariant-loop-i : goal.invariant-loop-i
invariant-loop-i l = l.count ≤ l.i * MAX_PAGES
