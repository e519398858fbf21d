use Rattle.std.proofs.Common.{arith}
use Rattle.esx_average.proofs.RowLaws.{rows_few}
use Rattle.esx_average.proofs.bulk.keep.Goals as goal

pub bounds-keeps-i : goal.bounds-keeps-i
bounds-keeps-i c = omega (arith, rows_few c.args.rows.now c.requires.rows)
