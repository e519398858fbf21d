use Rattle.std.proofs.Common.{arith}
use Rattle.esx_known.proofs.Callers.{knows_none}
use Rattle.esx_frames.proofs.RowLemmas.{table_new}
use Rattle.esx_frames.proofs.frames.FrameTable.new.Goals as goal

pub invariant_of-result : goal.invariant_of-result
invariant_of-result c =
    record {
      table = rw (c.in_ok-free.ensures, c.in_ok-rows.ensures) (table_new c.args.frames (omega arith));
      keys = rw c.new-3.ensures (knows_none _);
    }
