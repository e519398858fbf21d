use Rattle.std.proofs.Common.{◌*◌, ◌≤◌}
use Rattle.std.specs.Prelude.{All}
use Rattle.esx_types.specs.declared.config.TheConstants.{MAX_PAGES}
use Rattle.esx_average.specs.Bulk.{IsPart}
use Rattle.esx_average.proofs.limit.settle.Given as goal

abbrev pub invariant-loop-i : goal.invariant-loop-i
invariant-loop-i l = record {
  few : l.open ≤ l.i;
  revoked : l.revoked ≤ l.i * MAX_PAGES;
  parts : All IsPart l.parts;
}
