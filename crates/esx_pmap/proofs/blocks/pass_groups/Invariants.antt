use Rattle.std.proofs.Common.{◌≡◌, ◌+◌, ◌*◌, take}
use Rattle.esx_types.specs.Pages.{resident_count}
use Rattle.esx_pmap.specs.declared.blocks.TheConstants.{GROUP}
use Rattle.esx_pmap.proofs.blocks.pass_groups.Given as goal

abbrev pub invariant-loop-group : goal.invariant-loop-group
invariant-loop-group l = resident_count (take (l.group * GROUP) l.rows) + l.rest ≡ l.k
