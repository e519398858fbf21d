use Rattle.std.proofs.Common.{flat_map, arith, ◌∙◌}
use Rattle.esx_order.specs.Telling.{above_text}
use Rattle.esx_writing.proofs.WritingLemmas.{passes_more, passes_same, passes_stop, puts_error, flat_item_at, flat_item_more}
use Rattle.esx_order.proofs.telling.put_all_above.Goals as goal

pub returns-in_err-put_above-clause-bytes : goal.returns-in_err-put_above-clause-bytes
returns-in_err-put_above-clause-bytes g c =
    puts_error (g.W.Sink.contents c.args.sink.now) (g.W.Sink.contents c.put_above.new.sink) c.args.held.now c.put_above.new.held
    (flat_map above_text c.args.order.now) c.from_residual.result c.from_residual.ensures.0
    (passes_stop _ _ _ c.args.held.now c.loop-above.held _ _ _ _
    (flat_item_at above_text c.args.order.now c.loop-above.above-index c.above-item.result c.loop-above-test.true c.above-item.is) c.loop-above.invariant.passed
    c.in_err-put_above.ensures.bytes)

pub loop-above-preserved : goal.loop-above-preserved
loop-above-preserved g c = record {
  passed = passes_same _ _ c.args.held.now c.put_above.new.held _ _ (flat_item_more above_text c.args.order.now c.loop-above.above-index c.above-item.result c.loop-above-test.true c.above-item.is)
      (passes_more _ _ _ c.args.held.now c.loop-above.held _ _ _ c.loop-above.invariant.passed c.in_ok-put_above.ensures.bytes);
  failures = omega (arith, c.in_ok-put_above.ensures.failures, c.loop-above.invariant.failures);
  flushes = c.put_above.ensures.flushes ∙ c.loop-above.invariant.flushes;
}
