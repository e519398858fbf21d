use Rattle.std.proofs.Common.{◌-◌, ◌<◌, length, sym, ◌∙◌, arith}
use Rattle.esx_formulas.proofs.RowLaws.{row_read, rows_more, above_from_test}
use Rattle.esx_formulas.proofs.targets.are_rows.Goals as goal
use Rattle.esx_formulas.proofs.targets.are_rows.Goals.{else-i-gt0-via-then-i-gt0+else-le, else-i-gt0-via-else-i-gt0}

pub loop-i-preserved : goal.loop-i-preserved
loop-i-preserved c =
    let good = c.is_good.ensures.0 c.if-not-is_good.false in
    elim c.else-i-gt0.branch [
      | else-i-gt0-via-then-i-gt0+else-le w ↦
          let fits : c.loop-i.i - 1 < length c.args.rows.now = omega (arith, c.loop-i-test.true) in
          let before = row_read c.args.rows.now (c.loop-i.i - 1) w.index-rows-i-then-i-gt0.result fits w.index-rows-i-then-i-gt0.is in
          rows_more c.args.rows.now c.loop-i.i c.index-rows-i.result c.loop-i.invariant c.loop-i-test.true c.index-rows-i.is good
          (λ p. rw (← before, w.index-rows-i-then-i-gt0.is) (above_from_test _ _ (sym w.le.ensures ∙ w.if-le.false)))
      | else-i-gt0-via-else-i-gt0 w ↦
          rows_more c.args.rows.now c.loop-i.i c.index-rows-i.result c.loop-i.invariant c.loop-i-test.true c.index-rows-i.is good (λ p. absurd (omega arith))
    ]
