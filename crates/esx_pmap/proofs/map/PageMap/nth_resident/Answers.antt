use Rattle.std.proofs.Common.{arith}
use Rattle.esx_pmap.proofs.MapLemmas.{sum_all, rest_within, nth_is}
use Rattle.esx_pmap.proofs.UsedLemmas.{each_used, begins_within, nth_of_all}
use Rattle.esx_pmap.proofs.map.PageMap.nth_resident.Goals as goal

pub nth_block-block-requires : goal.nth_block-block-requires
nth_block-block-requires c = rw (c.deref.ensures.value, sum_all _ _ _ _ c.self.invariant.0) (rw (← c.self.view_is) at c.requires)

pub slice_bounds-nth_here-count : goal.slice_bounds-nth_here-count
slice_bounds-nth_here-count c =
    let found = rw c.deref.ensures.value at c.nth_block-block.ensures in
    let each = each_used _ _ _ _ c.used-used.ensures c.self.invariant.0.each in
    omega (arith, begins_within _ _ _ _ each found.within, c.min-end.ensures)

pub slice_bounds-nth_here-start : goal.slice_bounds-nth_here-start
slice_bounds-nth_here-start c =
    let found = rw c.deref.ensures.value at c.nth_block-block.ensures in
    let each = each_used _ _ _ _ c.used-used.ensures c.self.invariant.0.each in
    omega (arith, begins_within _ _ _ _ each found.within, c.min-end.ensures)

pub nth_here-requires : goal.nth_here-requires
nth_here-requires c =
    let found = rw c.deref.ensures.value at c.nth_block-block.ensures in
    let each = each_used _ _ _ _ c.used-used.ensures c.self.invariant.0.each in
    rest_within _ _ _ _ _ each c.min-end.ensures found.within

pub returns : goal.returns
returns c =
    let found = rw c.deref.ensures.value at c.nth_block-block.ensures in
    let each = each_used _ _ _ _ c.used-used.ensures c.self.invariant.0.each in
    let near = c.nth_here.ensures in
    let nth = nth_of_all _ _ _ _ _ c.used-used.ensures (nth_is _ _ _ _ _ _ _ each c.min-end.ensures found.in_range found.before near.in_range near.here near.before) in
    rw (← c.self.view_is) (record { page = nth.entry; in_range = nth.in_range; here = nth.here })
