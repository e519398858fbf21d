use Rattle.std.proofs.Common.{◌≤◌}
use Rattle.std.specs.Prelude.{All}
use Rattle.esx_types.specs.declared.config.TheConstants.{VM_NUMBERS}
use Rattle.esx_average.specs.declared.revoke.TheConstants.{ALL_PAGES}
use Rattle.esx_average.specs.declared.limit.TheConstants.{HIGHEST}
use Rattle.esx_average.specs.Bulk.{IsPart}
use Rattle.esx_average.proofs.limit.find_limit.Given as goal

abbrev pub invariant-loop : goal.invariant-loop
invariant-loop l = record {
  found : l.found ≤ HIGHEST;
  left : l.left ≤ ALL_PAGES;
  count : l.count ≤ VM_NUMBERS;
  parts : All IsPart l.parts;
}
