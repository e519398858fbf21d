use Rattle.std.proofs.Common.{◌≡◌, take}
use Rattle.esx_types.specs.Pages.{resident_count}
use Rattle.esx_pmap.proofs.blocks.here_count.Given as goal

abbrev pub invariant-loop-row : goal.invariant-loop-row
invariant-loop-row l = l.count ≡ resident_count (take l.row-index l.rows)
