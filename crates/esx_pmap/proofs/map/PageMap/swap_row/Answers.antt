use Rattle.std.proofs.Common.{◌/◌, ◌<◌, length, ap, ◌∙◌, arith}
use Rattle.std.proofs.lemmas.List.{get_or_read}
use Rattle.esx_types.specs.declared.table.MapRow.TheVariants.{Untouched}
use Rattle.esx_types.specs.Pages.{is_here, is_out}
use Rattle.esx_lists.proofs.Counts.{count_by-set-fits}
use Rattle.esx_pmap.specs.declared.map.TheConstants.{BLOCK}
use Rattle.esx_pmap.proofs.MapLemmas.{block_there, block_fits, map_set, loans_moved, others_lent}
use Rattle.esx_pmap.proofs.map.PageMap.swap_row.Goals as goal

pub recount-requires-clause-fits : goal.recount-requires-clause-fits
recount-requires-clause-fits c =
    let rows = c.self.inside.rows in
    let h : c.args.page < length rows = omega (arith, ap length c.self.view_is) in
    let old = c.row_mut-there.ensures.value in
    let m = c.self.invariant.0 in
    let was = c.is_here-was.ensures ∙ ap is_here old in
    rw (m.all, was, c.is_here-is.ensures) (count_by-set-fits is_here rows c.args.page c.args.row.now Untouched 4294967296 h m.fits)

pub recount-requires-2 : goal.recount-requires-2
recount-requires-2 c =
    let rows = c.self.inside.rows in
    let h : c.args.page < length rows = omega (arith, ap length c.self.view_is) in
    let old = c.row_mut-there.ensures.value in
    let m = c.self.invariant.0 in
    let was = c.is_here-was.ensures ∙ ap is_here old in
    let there : c.args.page / BLOCK < length c.self.inside.blocks.items = omega (arith, m.enough) in
    let read = get_or_read c.self.inside.blocks.items (c.args.page / BLOCK) _ there c.index_mut.ensures.value 0 in
    rw (read, m.each (c.args.page / BLOCK), was, c.is_here-is.ensures) (record {
      there = block_there rows c.args.page h;
      fits = block_fits rows c.args.page c.args.row.now h;
    })

pub recount-requires-3-clause-fits : goal.recount-requires-3-clause-fits
recount-requires-3-clause-fits c =
    let rows = c.self.inside.rows in
    let h : c.args.page < length rows = omega (arith, ap length c.self.view_is) in
    let old = c.row_mut-there.ensures.value in
    let m = c.self.invariant.0 in
    let was = c.is_out.ensures ∙ ap is_out old in
    rw (m.outside, was, c.is_out-2.ensures) (count_by-set-fits is_out rows c.args.page c.args.row.now Untouched 4294967296 h m.fits)

pub enter-requires-clause-room : goal.enter-requires-clause-room
enter-requires-clause-room c =
    let rows = c.self.inside.rows in
    let h : c.args.page < length rows = omega (arith, ap length c.self.view_is) in
    let old = c.row_mut-there.ensures.value in
    let lost = rw (old, c.self.invariant.1.all) at c.leave.ensures.all in
    let few = others_lent rows c.args.page _ h lost in
    omega (arith, few, c.leave.ensures.room, c.self.invariant.1.room)

pub enter-requires-clause-fits : goal.enter-requires-clause-fits
enter-requires-clause-fits c =
    let rows = c.self.inside.rows in
    let h : c.args.page < length rows = omega (arith, ap length c.self.view_is) in
    let old = c.row_mut-there.ensures.value in
    let lost = rw (old, c.self.invariant.1.all) at c.leave.ensures.all in
    let few = others_lent rows c.args.page _ h lost in
    omega (arith, few, c.self.invariant.0.fits)

pub invariant_of-self : goal.invariant_of-self
invariant_of-self c =
    let rows = c.self.inside.rows in
    let h : c.args.page < length rows = omega (arith, ap length c.self.view_is) in
    let old = c.row_mut-there.ensures.value in
    let m = c.self.invariant.0 in
    let was = c.is_here-was.ensures ∙ ap is_here old in
    let there : c.args.page / BLOCK < length c.self.inside.blocks.items = omega (arith, m.enough) in
    let read = get_or_read c.self.inside.blocks.items (c.args.page / BLOCK) _ there c.index_mut.ensures.value 0 in
    let row = c.args.row.now in
    let out = c.is_out.ensures ∙ ap is_out old in
    let counted = rw (read, was, c.is_here-is.ensures) at c.recount-2.ensures in
    let all = rw (was, c.is_here-is.ensures) at c.recount.ensures in
    let away = rw (out, c.is_out-2.ensures) at c.recount-3.ensures in
    let lost = rw old at c.leave.ensures.all in
    rw c.swap.ensures.x_after (
      map_set _ _ _ _ _ _ _ _ _ m h counted all away,
      loans_moved rows c.args.page row c.self.inside.loans.items c.leave.new.loans.items c.enter.new.loans.items _ _ h c.self.invariant.1 (omega (arith, c.leave.ensures.room, c.enter.ensures.room)) c.enter.ensures.loans
          (λ e. rw old at (c.leave.ensures.each e)) lost c.enter.ensures.each c.enter.ensures.all,
    )
