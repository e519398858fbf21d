use Rattle.std.proofs.Common.{arith}
use Rattle.esx_pmap.proofs.MapLemmas.{map_new, loans_new}
use Rattle.esx_pmap.proofs.map.PageMap.new.Goals as goal

pub invariant_of-result : goal.invariant_of-result
invariant_of-result c =
    let blocks = c.in_ok-vec.ensures.items_if_clones_equal (λ y e. e) in
    rw (c.in_ok-new.ensures, blocks, c.in_ok-with_capacity.ensures.items) (map_new c.args.max c.div_ceil.result (omega arith) c.div_ceil.ensures, loans_new c.args.max _ (omega (arith, c.in_ok-with_capacity.ensures.exact)))
