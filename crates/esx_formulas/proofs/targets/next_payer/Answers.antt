use Rattle.std.proofs.Common.{ℕ, slice_index, refl}
use Rattle.esx_formulas.proofs.PayerLaws.{best_begins, best_keeps, best_yields}
use Rattle.esx_formulas.proofs.targets.next_payer.Goals as goal
use Rattle.esx_formulas.proofs.targets.next_payer.Goals.{in-Some, in_default-2, in_default}

pub loop-i-preserved : goal.loop-i-preserved
loop-i-preserved c =
    let pages = λ (k : ℕ). slice_index c.args.targets.now k in
    elim c.match-best.branch [
      | in-Some w ↦
          best_keeps c.args.rows.now pages c.loop-i.i c.index-rows-i.result (pages c.loop-i.i) c.loop-i.best c.match-best.best c.loop-i-test.true c.index-rows-i.is refl c.loop-i.invariant
          w.in-Some.b w.index-rows-b.result (pages w.in-Some.b) w.in-Some.is w.index-rows-b.is refl w.best-is (w.comes_no_later_at.ensures.0 w.if-comes_no_later_at.true)
      | in_default-2 w ↦
          best_yields c.args.rows.now pages c.loop-i.i c.index-rows-i.result (pages c.loop-i.i) c.loop-i.best c.match-best.best c.loop-i-test.true c.index-rows-i.is refl c.loop-i.invariant
          w.in-Some.b w.index-rows-b.result (pages w.in-Some.b) w.in-Some.is w.index-rows-b.is refl c.requires.rows w.best-is c.if-targets-i.false
          (λ p. cc (w.comes_no_later_at.ensures.1 p))
      | in_default w ↦
          best_begins c.args.rows.now pages c.loop-i.i c.index-rows-i.result (pages c.loop-i.i) c.loop-i.best c.match-best.best c.loop-i-test.true c.index-rows-i.is refl c.loop-i.invariant
          w.in_default.is w.best-is c.if-targets-i.false
    ]
