use Rattle.std.proofs.Common.{ℕ, ◌<◌, length, arith}
use Rattle.esx_formulas.specs.Ratio.{row_at}
use Rattle.esx_formulas.specs.Payers.{IsFirstBelow}
use Rattle.esx_formulas.proofs.PayerLaws.{best_begins, best_keeps, best_yields}
use Rattle.esx_formulas.proofs.RowLaws.{pages_read, good_read}
use Rattle.esx_formulas.proofs.ratio.first_payer.Goals as goal
use Rattle.esx_formulas.proofs.ratio.first_payer.Goals.{in-Some, in_default-2, in_default}

pub comes_no_later-requires-clause-other : goal.comes_no_later-requires-clause-other
comes_no_later-requires-clause-other c = good_read c.args.rows.now c.loop-i.i c.index-rows-i.result c.requires.rows c.loop-i-test.true c.index-rows-i.is

pub loop-i-preserved : goal.loop-i-preserved
loop-i-preserved c =
    let pages = λ (k : ℕ). (row_at c.args.rows.now k).pages in
    let mine = pages_read c.args.rows.now c.loop-i.i c.index-rows-i.result c.loop-i-test.true c.index-rows-i.is in
    elim c.match-best.branch [
      | in-Some w ↦
          let first : IsFirstBelow c.args.rows.now pages c.loop-i.i w.in-Some.b = rw w.in-Some.is at c.loop-i.invariant in
          let fits : w.in-Some.b < length c.args.rows.now = omega (arith, first.within, c.loop-i-test.true) in
          best_keeps c.args.rows.now pages c.loop-i.i c.index-rows-i.result c.index-rows-i.result.pages c.loop-i.best c.match-best.best
          c.loop-i-test.true c.index-rows-i.is mine c.loop-i.invariant
          w.in-Some.b w.index-rows-b.result w.index-rows-b.result.pages w.in-Some.is w.index-rows-b.is
          (pages_read c.args.rows.now w.in-Some.b w.index-rows-b.result fits w.index-rows-b.is)
          w.best-is (w.comes_no_later.ensures.0 w.if-comes_no_later.true)
      | in_default-2 w ↦
          let first : IsFirstBelow c.args.rows.now pages c.loop-i.i w.in-Some.b = rw w.in-Some.is at c.loop-i.invariant in
          let fits : w.in-Some.b < length c.args.rows.now = omega (arith, first.within, c.loop-i-test.true) in
          best_yields c.args.rows.now pages c.loop-i.i c.index-rows-i.result c.index-rows-i.result.pages c.loop-i.best c.match-best.best
          c.loop-i-test.true c.index-rows-i.is mine c.loop-i.invariant
          w.in-Some.b w.index-rows-b.result w.index-rows-b.result.pages w.in-Some.is w.index-rows-b.is
          (pages_read c.args.rows.now w.in-Some.b w.index-rows-b.result fits w.index-rows-b.is)
          c.requires.rows w.best-is c.if-row.false (λ p. cc (w.comes_no_later.ensures.1 p))
      | in_default w ↦
          best_begins c.args.rows.now pages c.loop-i.i c.index-rows-i.result c.index-rows-i.result.pages c.loop-i.best c.match-best.best
          c.loop-i-test.true c.index-rows-i.is mine c.loop-i.invariant w.in_default.is w.best-is c.if-row.false
    ]
