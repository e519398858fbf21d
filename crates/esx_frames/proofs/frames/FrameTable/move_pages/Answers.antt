use Rattle.std.proofs.Common.{◌≡◌, ◌<◌, true, length, ap, sym, refl, ◌∙◌, arith}
use Rattle.std.proofs.Math.Seq.{map-set_same}
use Rattle.std.proofs.lemmas.List.{map-set}
use Rattle.esx_lists.proofs.Counts.{same_tests}
use Rattle.esx_types.specs.declared.table.FrameRow.TheVariants.{Free}
use Rattle.esx_types.specs.Frames.{is_free, frame_at}
use Rattle.esx_frames.specs.Counts.{with_row, without_row}
use Rattle.esx_frames.specs.Marks.{moves_at}
use Rattle.esx_frames.proofs.RowLemmas.{count_fits, table_set}
use Rattle.esx_frames.proofs.KnownLemmas.{row_forgotten}
use Rattle.esx_frames.proofs.PageLemmas.{moves_inside}
use Rattle.esx_frames.proofs.frames.FrameTable.move_pages.Goals as goal
use Rattle.esx_frames.proofs.frames.FrameTable.move_pages.Goals.{then-is-was, else-is-was}

pub add-requires : goal.add-requires
add-requires c =
    let rows = c.self.inside.rows in
    let may : moves_at c.args.mpn c.args.self.now ≡ true = grind (arith, c.moves_at.ensures, c.if-not-moves_at.false) in
    let h : c.args.mpn < length rows = omega (arith, ap length c.self.view_is, moves_inside c.args.mpn c.args.self.now may) in
    rw (c.remove.ensures, c.self.invariant.table.counts, c.row_mut-there.ensures.value) (count_fits rows c.args.mpn c.trade_slot.new.row h c.self.invariant.table.fits)

pub invariant_of-self : goal.invariant_of-self
invariant_of-self c =
    let rows = c.self.inside.rows in
    let row = c.trade_slot.new.row in
    let may : moves_at c.args.mpn c.args.self.now ≡ true = grind (arith, c.moves_at.ensures, c.if-not-moves_at.false) in
    let h : c.args.mpn < length rows = omega (arith, ap length c.self.view_is, moves_inside c.args.mpn c.args.self.now may) in
    let had = c.row_mut-there.ensures.value in
    let counts : c.add.new.self ≡ with_row (without_row c.self.inside.counts (frame_at rows c.args.mpn)) row = rw (c.add.ensures, c.remove.ensures, had) refl in
    elim c.if-is-was.branch [
      | then-is-was w ↦
          let free = w.set.ensures ∙ rw (c.is_free-is.ensures, c.self.invariant.table.free) (sym (map-set is_free rows c.args.mpn row)) in
          record {
            table = rw w.self-inside-is (table_set rows c.args.mpn row _ _ _ _ c.self.invariant.table h free counts);
            keys = rw (c.forget.ensures, w.self-inside-is) (row_forgotten rows _ c.args.mpn row c.self.invariant.keys);
          }
      | else-is-was w ↦
          let same : is_free row ≡ is_free (frame_at rows c.args.mpn) = sym c.is_free-is.ensures ∙ (same_tests _ _ w.if-is-was.false ∙ (c.is_free-was.ensures ∙ ap is_free had)) in
          record {
            table = rw w.self-inside-is (table_set rows c.args.mpn row _ _ _ _ c.self.invariant.table h (c.self.invariant.table.free ∙ sym (map-set_same is_free rows c.args.mpn row Free same)) counts);
            keys = rw (c.forget.ensures, w.self-inside-is) (row_forgotten rows _ c.args.mpn row c.self.invariant.keys);
          }
    ]
