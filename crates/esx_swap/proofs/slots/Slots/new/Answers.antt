use Rattle.std.proofs.Common.{arith}
use Rattle.esx_known.proofs.Callers.{knows_none}
use Rattle.esx_swap.proofs.RowLemmas.{table_new}
use Rattle.esx_swap.proofs.slots.Slots.new.Goals as goal

pub invariant_of-result : goal.invariant_of-result
invariant_of-result c =
    record {
      table = rw (c.in_ok-new-2.ensures, c.in_ok-new.ensures) (table_new c.args.slots (omega arith));
      keys = rw c.new-3.ensures (knows_none _);
    }
