use Rattle.std.proofs.Common.{◌≡◌, []}
use Rattle.esx_check.specs.Gates.{PassedFor}
use Rattle.esx_check.proofs.MigrateLemmas.{MadeSoFar}
use Rattle.esx_check.proofs.migration.migrate_calls.Given as goal

abbrev pub invariant-loop-entry : goal.invariant-loop-entry
invariant-loop-entry g l = record {
  so_far : MadeSoFar l.fn.site l.entries l.count l.again.console;
  count : l.count ≡ l.entry-index;
  held : l.again.held ≡ [];
  gate : PassedFor g.G.Gate.passes l.count l.initial.gate l.gate;
}
