use Rattle.std.proofs.Common.{◌≡◌, ◌+◌, sum, take}
use Rattle.esx_pmap.proofs.blocks.nth_block.Given as goal

abbrev pub invariant-loop-block : goal.invariant-loop-block
invariant-loop-block l = sum (take l.block l.blocks) + l.rest ≡ l.k
