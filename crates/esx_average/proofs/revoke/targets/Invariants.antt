use Rattle.std.proofs.Common.{◌+◌, ◌≤◌}
use Rattle.esx_types.specs.declared.config.TheConstants.{MAX_PAGES}
use Rattle.esx_average.proofs.ChunkLaws.{IsPartial}
use Rattle.esx_average.proofs.revoke.targets.Given as goal

abbrev pub invariant-loop-left : goal.invariant-loop-left
invariant-loop-left l = record {
  partial : IsPartial l.rows l.need l.targets.items l.left;
  some : 1 ≤ l.chunk;
  most : l.chunk ≤ MAX_PAGES;
}

abbrev pub decreases-loop-left : goal.decreases-loop-left
decreases-loop-left l = l.left + l.chunk
