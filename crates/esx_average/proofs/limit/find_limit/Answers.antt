use Rattle.std.proofs.Common.{arith}
use Rattle.esx_average.proofs.RowLaws.{rows_few}
use Rattle.esx_average.proofs.limit.find_limit.Goals as goal

pub overflow_cast-rows : goal.overflow_cast-rows
overflow_cast-rows c = omega (arith, rows_few c.args.rows.now c.requires.rows)

pub loop-init : goal.loop-init
loop-init c = record {
  found = omega arith;
  left = c.requires.left;
  count = omega (arith, rows_few c.args.rows.now c.requires.rows, c.open_parts-count.ensures.few);
  parts = c.open_parts-count.ensures.parts;
}
