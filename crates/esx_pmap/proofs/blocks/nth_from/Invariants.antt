use Rattle.std.proofs.Common.{◌≡◌, ◌+◌, take}
use Rattle.esx_types.specs.Pages.{resident_count}
use Rattle.esx_pmap.proofs.blocks.nth_from.Given as goal

abbrev pub invariant-loop-at : goal.invariant-loop-at
invariant-loop-at l = resident_count (take l.at l.rows) + l.rest ≡ l.k
