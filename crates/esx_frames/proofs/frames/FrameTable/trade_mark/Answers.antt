use Rattle.std.proofs.Common.{◌≡◌, ◌<◌, length, ap, sym, refl, ◌∙◌, arith}
use Rattle.std.proofs.Math.Seq.{map-set_same}
use Rattle.esx_types.specs.declared.table.FrameRow.TheVariants.{Free}
use Rattle.esx_types.specs.Frames.{is_free, frame_at, bytes_of}
use Rattle.esx_frames.specs.Counts.{with_row, without_row}
use Rattle.esx_frames.proofs.RowLemmas.{count_fits, table_set, mark_free}
use Rattle.esx_frames.proofs.KnownLemmas.{row_alike, mark_bytes}
use Rattle.esx_frames.proofs.frames.FrameTable.trade_mark.Goals as goal

pub add-requires : goal.add-requires
add-requires c =
    let rows = c.self.inside.rows in
    let h : c.args.mpn < length rows = omega (arith, ap length c.self.view_is) in
    rw (c.remove.ensures, c.self.invariant.table.counts, c.row_mut-there.ensures.value) (count_fits rows c.args.mpn c.trade_mark.new.row h c.self.invariant.table.fits)

pub invariant_of-self : goal.invariant_of-self
invariant_of-self c =
    let rows = c.self.inside.rows in
    let h : c.args.mpn < length rows = omega (arith, ap length c.self.view_is) in
    let there = c.row_mut-there.ensures.value in
    let counts : c.add.new.self ≡ with_row (without_row c.self.inside.counts (frame_at rows c.args.mpn)) c.trade_mark.new.row = rw (c.add.ensures, c.remove.ensures, there) refl in
    let same : is_free c.trade_mark.new.row ≡ is_free (frame_at rows c.args.mpn) = ap is_free c.trade_mark.ensures.row ∙ mark_free _ _ ∙ ap is_free there in
    let bytes : bytes_of c.trade_mark.new.row ≡ bytes_of (frame_at rows c.args.mpn) = ap bytes_of c.trade_mark.ensures.row ∙ mark_bytes c.row_mut-there.result.now c.args.mark.now ∙ ap bytes_of there in
    record {
      table = table_set rows c.args.mpn c.trade_mark.new.row _ _ _ _ c.self.invariant.table h (c.self.invariant.table.free ∙ sym (map-set_same is_free rows c.args.mpn c.trade_mark.new.row Free same)) counts;
      keys = row_alike rows _ c.args.mpn c.trade_mark.new.row c.self.invariant.keys h bytes;
    }
