use Rattle.std.proofs.Common.{◌≤◌}
use Rattle.std.specs.List.{AllWithin}
use Rattle.std.specs.Prelude.{All}
use Rattle.esx_average.specs.Bulk.{IsPart, IsAbove}
use Rattle.esx_average.proofs.limit.open_parts.Given as goal

abbrev pub invariant-loop-i : goal.invariant-loop-i
invariant-loop-i l = record {
  few : l.count ≤ l.i;
  parts : All IsPart l.parts;
  above : AllWithin IsAbove l.parts 0 l.count;
}
