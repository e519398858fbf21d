use Rattle.std.proofs.Common.{flat_map, arith, ◌∙◌}
use Rattle.esx_report.specs.Changes.{change_row}
use Rattle.esx_writing.proofs.WritingLemmas.{passes_more, passes_same, passes_stop, puts_error, flat_item_at, flat_item_more}
use Rattle.esx_report.proofs.changes.put_change_rows.Goals as goal

pub returns-in_err-put_change-clause-bytes : goal.returns-in_err-put_change-clause-bytes
returns-in_err-put_change-clause-bytes g c =
    puts_error (g.W.Sink.contents c.args.sink.now) (g.W.Sink.contents c.put_change.new.sink) c.args.held.now c.put_change.new.held
    (flat_map change_row c.args.lines.now) c.from_residual.result c.from_residual.ensures.0
    (passes_stop _ _ _ c.args.held.now c.loop-line.held _ _ _ _
    (flat_item_at change_row c.args.lines.now c.loop-line.line-index c.line-item.result c.loop-line-test.true c.line-item.is) c.loop-line.invariant.passed
    c.in_err-put_change.ensures.bytes)

pub loop-line-preserved : goal.loop-line-preserved
loop-line-preserved g c = record {
  passed = passes_same _ _ c.args.held.now c.put_change.new.held _ _ (flat_item_more change_row c.args.lines.now c.loop-line.line-index c.line-item.result c.loop-line-test.true c.line-item.is)
      (passes_more _ _ _ c.args.held.now c.loop-line.held _ _ _ c.loop-line.invariant.passed c.in_ok-put_change.ensures.bytes);
  failures = omega (arith, c.in_ok-put_change.ensures.failures, c.loop-line.invariant.failures);
  flushes = c.put_change.ensures.flushes ∙ c.loop-line.invariant.flushes;
}
