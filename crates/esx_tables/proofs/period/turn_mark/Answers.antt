use Rattle.std.proofs.Common.{arith}
use Rattle.esx_tables.proofs.Summed.{fewer_touched}
use Rattle.esx_tables.proofs.period.turn_mark.Goals as goal

pub overflow_add-summary : goal.overflow_add-summary
overflow_add-summary c =
    let fewer = fewer_touched c.args.marks.now c.args.at c.row_mut-mark.result.now (omega arith) c.row_mut-mark.ensures.value c.if-mark.true in
    omega (arith, fewer)
