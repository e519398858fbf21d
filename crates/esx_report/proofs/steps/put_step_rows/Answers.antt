use Rattle.std.proofs.Common.{flat_map, arith, ◌∙◌}
use Rattle.esx_report.specs.Steps.{step_row}
use Rattle.esx_writing.proofs.WritingLemmas.{passes_more, passes_same, passes_stop, puts_error, flat_item_at, flat_item_more}
use Rattle.esx_report.proofs.steps.put_step_rows.Goals as goal

pub returns-in_err-put_step-clause-bytes : goal.returns-in_err-put_step-clause-bytes
returns-in_err-put_step-clause-bytes g c =
    puts_error (g.W.Sink.contents c.args.sink.now) (g.W.Sink.contents c.put_step.new.sink) c.args.held.now c.put_step.new.held
    (flat_map step_row c.args.rows.now) c.from_residual.result c.from_residual.ensures.0
    (passes_stop _ _ _ c.args.held.now c.loop-row.held _ _ _ _
    (flat_item_at step_row c.args.rows.now c.loop-row.row-index c.row-item.result c.loop-row-test.true c.row-item.is) c.loop-row.invariant.passed
    c.in_err-put_step.ensures.bytes)

pub loop-row-preserved : goal.loop-row-preserved
loop-row-preserved g c = record {
  passed = passes_same _ _ c.args.held.now c.put_step.new.held _ _ (flat_item_more step_row c.args.rows.now c.loop-row.row-index c.row-item.result c.loop-row-test.true c.row-item.is)
      (passes_more _ _ _ c.args.held.now c.loop-row.held _ _ _ c.loop-row.invariant.passed c.in_ok-put_step.ensures.bytes);
  failures = omega (arith, c.in_ok-put_step.ensures.failures, c.loop-row.invariant.failures);
  flushes = c.put_step.ensures.flushes ∙ c.loop-row.invariant.flushes;
}
