use Rattle.std.proofs.Common.{◌≡◌, refl, arith}
use Rattle.esx_keys.specs.Table.{head_count}
use Rattle.site_tests.proofs.tests.keys.one_head_holds_eight_hints.Goals as goal

eight_heads : head_count 8 ≡ 8
unfolding head_count
eight_heads = refl

pub chain-requires-2 : goal.chain-requires-2
chain-requires-2 g c = rw (c.loop-page.invariant.room, eight_heads) (omega arith)
