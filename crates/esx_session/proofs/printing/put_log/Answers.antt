use Rattle.std.proofs.Common.{flat_map, arith, ◌∙◌}
use Rattle.esx_session.specs.Printing.{line_text}
use Rattle.esx_writing.proofs.WritingLemmas.{passes_more, passes_same, passes_stop, puts_error, flat_item_at, flat_item_more, utf8_more}
use Rattle.esx_session.proofs.printing.put_log.Goals as goal

pub returns-in_err-put_line-clause-bytes : goal.returns-in_err-put_line-clause-bytes
returns-in_err-put_line-clause-bytes g c =
    puts_error (g.W.Sink.contents c.args.sink.now) (g.W.Sink.contents c.put_line.new.sink) c.args.held.now c.put_line.new.held
    (flat_map line_text c.args.log.now) c.from_residual.result c.from_residual.ensures.0
    (passes_stop _ _ _ c.args.held.now c.loop-line.held _ _ _ _
    (flat_item_at line_text c.args.log.now c.loop-line.line-index c.line-item.result c.loop-line-test.true c.line-item.is) c.loop-line.invariant.passed
    c.in_err-put_line.ensures.bytes)

pub loop-line-preserved : goal.loop-line-preserved
loop-line-preserved g c =
    let more = flat_item_more line_text c.args.log.now c.loop-line.line-index c.line-item.result c.loop-line-test.true c.line-item.is in
    record {
      passed = passes_same _ _ c.args.held.now c.put_line.new.held _ _ more
          (passes_more _ _ _ c.args.held.now c.loop-line.held _ _ _ c.loop-line.invariant.passed c.in_ok-put_line.ensures.bytes);
      utf8 = utf8_more _ _ _ more c.loop-line.invariant.utf8 c.in_ok-put_line.ensures.utf8;
      failures = omega (arith, c.in_ok-put_line.ensures.failures, c.loop-line.invariant.failures);
      flushes = c.put_line.ensures.flushes ∙ c.loop-line.invariant.flushes;
    }
