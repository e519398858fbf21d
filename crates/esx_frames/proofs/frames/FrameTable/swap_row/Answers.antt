use Rattle.std.proofs.Common.{◌≡◌, ◌<◌, length, refl, ap, sym, ◌∙◌, arith}
use Rattle.std.proofs.lemmas.List.{map-set}
use Rattle.std.proofs.Math.Seq.{map-set_same}
use Rattle.esx_lists.proofs.Counts.{same_tests}
use Rattle.esx_types.specs.declared.table.FrameRow.TheVariants.{Free}
use Rattle.esx_types.specs.Frames.{is_free, frame_at}
use Rattle.esx_frames.specs.Counts.{with_row, without_row}
use Rattle.esx_frames.proofs.RowLemmas.{count_fits, table_set}
use Rattle.esx_frames.proofs.KnownLemmas.{row_forgotten}
use Rattle.esx_frames.proofs.frames.FrameTable.swap_row.Goals as goal
use Rattle.esx_frames.proofs.frames.FrameTable.swap_row.Goals.{then-free-is_free, else-free-is_free}

pub add-requires : goal.add-requires
add-requires c =
    let h : c.args.mpn < length c.self.inside.rows = omega (arith, ap length c.self.view_is) in
    rw (c.remove.ensures, c.self.invariant.table.counts, c.row_mut-there.ensures.value) (count_fits _ _ _ h c.self.invariant.table.fits)

pub invariant_of-self : goal.invariant_of-self
invariant_of-self c =
    let rows = c.self.inside.rows in
    let h : c.args.mpn < length rows = omega (arith, ap length c.self.view_is) in
    let there = c.row_mut-there.ensures.value in
    let counts : c.add.new.self ≡ with_row (without_row c.self.inside.counts (frame_at rows c.args.mpn)) c.args.row.now = rw (c.add.ensures, c.remove.ensures, there) refl in
    elim c.if-free-is_free.branch [
      | then-free-is_free w ↦
          let free = w.set.ensures ∙ rw (c.is_free-free.ensures, c.self.invariant.table.free) (sym (map-set is_free rows c.args.mpn c.args.row.now)) in
          record {
            table = rw (w.self-inside-is, c.swap.ensures.x_after) (table_set _ _ _ _ _ _ _ c.self.invariant.table h free counts);
            keys = rw (c.forget.ensures, c.swap.ensures.x_after) (row_forgotten _ _ _ _ c.self.invariant.keys);
          }
      | else-free-is_free w ↦
          let same : is_free c.args.row.now ≡ is_free (frame_at rows c.args.mpn) = sym c.is_free-free.ensures ∙ (same_tests _ _ w.if-free-is_free.false ∙ (c.is_free.ensures ∙ ap is_free there)) in
          record {
            table = rw (w.self-inside-is, c.swap.ensures.x_after) (table_set _ _ _ _ _ _ _ c.self.invariant.table h (c.self.invariant.table.free ∙ sym (map-set_same is_free rows c.args.mpn c.args.row.now Free same)) counts);
            keys = rw (c.forget.ensures, c.swap.ensures.x_after) (row_forgotten _ _ _ _ c.self.invariant.keys);
          }
    ]
