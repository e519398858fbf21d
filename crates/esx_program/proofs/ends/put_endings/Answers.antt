use Rattle.std.proofs.Common.{flat_map, arith, ◌∙◌}
use Rattle.esx_program.specs.Ends.{ending_text}
use Rattle.esx_writing.proofs.WritingLemmas.{passes_more, passes_same, passes_stop, puts_error, flat_item_at, flat_item_more}
use Rattle.esx_program.proofs.ends.put_endings.Goals as goal

pub returns-in_err-put_ending-clause-bytes : goal.returns-in_err-put_ending-clause-bytes
returns-in_err-put_ending-clause-bytes g c =
    puts_error (g.W.Sink.contents c.args.sink.now) (g.W.Sink.contents c.put_ending.new.sink) c.args.held.now c.put_ending.new.held
    (flat_map ending_text c.args.endings.now) c.from_residual.result c.from_residual.ensures.0
    (passes_stop _ _ _ c.args.held.now c.loop-ending.held _ _ _ _
    (flat_item_at ending_text c.args.endings.now c.loop-ending.ending-index c.ending-item.result c.loop-ending-test.true c.ending-item.is) c.loop-ending.invariant.passed
    c.in_err-put_ending.ensures.bytes)

pub loop-ending-preserved : goal.loop-ending-preserved
loop-ending-preserved g c =
    let more = flat_item_more ending_text c.args.endings.now c.loop-ending.ending-index c.ending-item.result c.loop-ending-test.true c.ending-item.is in
    record {
      passed = passes_same _ _ c.args.held.now c.put_ending.new.held _ _ more
          (passes_more _ _ _ c.args.held.now c.loop-ending.held _ _ _ c.loop-ending.invariant.passed c.in_ok-put_ending.ensures.bytes);
      failures = omega (arith, c.in_ok-put_ending.ensures.failures, c.loop-ending.invariant.failures);
      flushes = c.put_ending.ensures.flushes ∙ c.loop-ending.invariant.flushes;
    }
