use Rattle.std.proofs.Common.{◌++◌, flat_map, arith, ◌∙◌}
use Rattle.esx_writing.proofs.WritingLemmas.{passes_more, passes_same, passes_stop, puts_error, flat_item_at, flat_item_more}
use Rattle.esx_report.proofs.row.put_more.Goals as goal

pub returns-in_err-put_next-clause-bytes : goal.returns-in_err-put_next-clause-bytes
returns-in_err-put_next-clause-bytes g c =
    puts_error (g.W.Sink.contents c.args.sink.now) (g.W.Sink.contents c.put_next.new.sink) c.args.held.now c.put_next.new.held
    (flat_map (λ y. g.C.Column.separator ++ g.C.Column.text y) c.args.columns.now) c.from_residual.result c.from_residual.ensures.0
    (passes_stop _ _ _ c.args.held.now c.loop-column.held _ _ _ _
    (flat_item_at (λ y. g.C.Column.separator ++ g.C.Column.text y) c.args.columns.now c.loop-column.column-index c.column-item.result c.loop-column-test.true c.column-item.is) c.loop-column.invariant.passed
    c.in_err-put_next.ensures.bytes)

pub loop-column-preserved : goal.loop-column-preserved
loop-column-preserved g c =
    record {
      passed = passes_same _ _ c.args.held.now c.put_next.new.held _ _ (flat_item_more (λ y. g.C.Column.separator ++ g.C.Column.text y) c.args.columns.now c.loop-column.column-index c.column-item.result c.loop-column-test.true c.column-item.is)
          (passes_more _ _ _ c.args.held.now c.loop-column.held _ _ _ c.loop-column.invariant.passed c.in_ok-put_next.ensures.bytes);
      failures = omega (arith, c.in_ok-put_next.ensures.failures, c.loop-column.invariant.failures);
      flushes = c.put_next.ensures.flushes ∙ c.loop-column.invariant.flushes;
    }
