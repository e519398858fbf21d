use Rattle.std.proofs.Common.{◌<◌, length, ap, sym, ◌∙◌, arith}
use Rattle.esx_frames.proofs.RowLemmas.{table_alike, recount_alike}
use Rattle.esx_frames.proofs.KnownLemmas.{row_alike, shared_bytes}
use Rattle.esx_frames.proofs.frames.FrameTable.drop_ref.Goals as goal

pub invariant_of-self : goal.invariant_of-self
invariant_of-self c =
    let h : c.args.mpn < length c.self.inside.rows = omega (arith, ap length c.self.view_is) in
    let row = sym c.row_mut.ensures.value ∙ c.in-Shared.is in
    record {
      table = table_alike _ _ _ _ _ c.self.invariant.table (recount_alike _ _ _ _ row);
      keys = row_alike _ _ _ _ c.self.invariant.keys h (shared_bytes _ _ _ row);
    }
