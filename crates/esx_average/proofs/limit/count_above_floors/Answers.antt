use Rattle.std.proofs.Common.{arith}
use Rattle.esx_average.proofs.RowLaws.{rows_few}
use Rattle.esx_average.proofs.limit.count_above_floors.Goals as goal

pub overflow_add-count : goal.overflow_add-count
overflow_add-count c =
    omega (arith, rows_few c.args.rows.now c.requires.rows, c.loop-i.invariant, c.requires.most c.loop-i.i (omega (arith, c.requires.count)))

pub returns : goal.returns
returns c = omega (arith, rows_few c.args.rows.now c.requires.rows, c.loop-i.invariant)
