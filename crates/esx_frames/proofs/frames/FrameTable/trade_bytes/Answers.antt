use Rattle.esx_frames.proofs.RowLemmas.{table_alike, bytes_alike}
use Rattle.esx_frames.proofs.KnownLemmas.{row_forgotten}
use Rattle.esx_frames.proofs.frames.FrameTable.trade_bytes.Goals as goal

pub invariant_of-self : goal.invariant_of-self
invariant_of-self c =
    record {
      table = rw (c.trade_bytes.ensures.row, c.row_mut.ensures.value) (table_alike _ c.args.mpn _ _ _ c.self.invariant.table (bytes_alike c.args.offset _ _));
      keys = rw c.forget.ensures (row_forgotten _ _ _ _ c.self.invariant.keys);
    }
