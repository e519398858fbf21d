use Rattle.std.proofs.Common.{ℕ, ◌-◌, slice_index, refl}
use Rattle.esx_formulas.proofs.PayerLaws.{best_skips, best_begins, best_keeps, best_yields}
use Rattle.esx_average.proofs.revoke.next_payer.Goals as goal
use Rattle.esx_average.proofs.revoke.next_payer.Goals.{in-Some, in_default-2, in_default}

pub loop-i-preserved-then-pages-row : goal.loop-i-preserved-then-pages-row
loop-i-preserved-then-pages-row c =
    best_skips c.args.rows.now (λ (k : ℕ). slice_index c.args.targets.now k - c.args.less) c.loop-i.i c.index-rows-i.result c.saturating_sub-pages.result
    c.loop-i.best c.loop-i.best c.loop-i-test.true c.index-rows-i.is c.saturating_sub-pages.ensures c.loop-i.invariant refl c.if-pages-row.true

pub loop-i-preserved : goal.loop-i-preserved
loop-i-preserved c =
    let pages = λ (k : ℕ). slice_index c.args.targets.now k - c.args.less in
    elim c.match-best.branch [
      | in-Some w ↦
          best_keeps c.args.rows.now pages c.loop-i.i c.index-rows-i.result c.saturating_sub-pages.result c.loop-i.best c.match-best.best
          c.loop-i-test.true c.index-rows-i.is c.saturating_sub-pages.ensures c.loop-i.invariant
          w.in-Some.b w.index-rows-b.result w.saturating_sub.result w.in-Some.is w.index-rows-b.is w.saturating_sub.ensures
          w.best-is (w.comes_no_later_at.ensures.0 w.if-comes_no_later_at.true)
      | in_default-2 w ↦
          best_yields c.args.rows.now pages c.loop-i.i c.index-rows-i.result c.saturating_sub-pages.result c.loop-i.best c.match-best.best
          c.loop-i-test.true c.index-rows-i.is c.saturating_sub-pages.ensures c.loop-i.invariant
          w.in-Some.b w.index-rows-b.result w.saturating_sub.result w.in-Some.is w.index-rows-b.is w.saturating_sub.ensures
          c.requires.rows w.best-is c.if-pages-row.false (λ p. cc (w.comes_no_later_at.ensures.1 p))
      | in_default w ↦
          best_begins c.args.rows.now pages c.loop-i.i c.index-rows-i.result c.saturating_sub-pages.result c.loop-i.best c.match-best.best
          c.loop-i-test.true c.index-rows-i.is c.saturating_sub-pages.ensures c.loop-i.invariant w.in_default.is w.best-is c.if-pages-row.false
    ]
