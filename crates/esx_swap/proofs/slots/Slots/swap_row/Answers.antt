use Rattle.std.proofs.Common.{◌≡◌, ◌<◌, length, ap, sym, ◌∙◌, arith}
use Rattle.std.proofs.Math.Seq.{map-set_same}
use Rattle.std.proofs.lemmas.List.{map-set}
use Rattle.esx_lists.proofs.Counts.{count_by-set-fits, counted_there, same_tests}
use Rattle.esx_types.specs.declared.table.SlotRow.TheVariants.{Free}
use Rattle.esx_types.specs.Slots.{is_empty, slot_at}
use Rattle.esx_swap.proofs.RowLemmas.{table_set, row_forgotten}
use Rattle.esx_swap.proofs.slots.Slots.swap_row.Goals as goal
use Rattle.esx_swap.proofs.slots.Slots.swap_row.Goals.{then-is-was, else-is-was}

pub recount-requires : goal.recount-requires
recount-requires c =
    let rows = c.self.inside.rows in
    let h : c.args.slot < length rows = omega (arith, ap length c.self.view_is) in
    let was = c.is_empty-was.ensures ∙ ap is_empty c.row_mut-there.ensures.value in
    rw (c.self.invariant.table.counted, was) (record { there = counted_there is_empty rows c.args.slot Free h; fits = rw c.is_empty-is.ensures (count_by-set-fits is_empty rows c.args.slot c.args.row.now Free 4294967296 h c.self.invariant.table.fits) })

pub invariant_of-self : goal.invariant_of-self
invariant_of-self c =
    let rows = c.self.inside.rows in
    let row = c.args.row.now in
    let h : c.args.slot < length rows = omega (arith, ap length c.self.view_is) in
    let was = c.is_empty-was.ensures ∙ ap is_empty c.row_mut-there.ensures.value in
    let counted = rw (was, c.is_empty-is.ensures) at c.recount.ensures in
    elim c.if-is-was.branch [
      | then-is-was w ↦
          let free = w.set.ensures ∙ rw (c.is_empty-is.ensures, c.self.invariant.table.free) (sym (map-set is_empty rows c.args.slot row)) in
          record {
            table = rw (w.self-inside-is, c.swap.ensures.x_after) (table_set rows c.args.slot row _ _ _ _ c.self.invariant.table h free counted);
            keys = rw (c.forget.ensures, w.self-inside-is) (row_forgotten _ _ _ _ c.self.invariant.keys);
          }
      | else-is-was w ↦
          let same : is_empty row ≡ is_empty (slot_at rows c.args.slot) = sym c.is_empty-is.ensures ∙ (same_tests _ _ w.if-is-was.false ∙ was) in
          record {
            table = rw (w.self-inside-is, c.swap.ensures.x_after) (table_set rows c.args.slot row _ _ _ _ c.self.invariant.table h (c.self.invariant.table.free ∙ sym (map-set_same is_empty rows c.args.slot row Free same)) counted);
            keys = rw (c.forget.ensures, w.self-inside-is) (row_forgotten _ _ _ _ c.self.invariant.keys);
          }
    ]
