use Rattle.std.proofs.Common.{arith, ◌∙◌}
use Rattle.esx_replies.specs.Signs.{behind}
use Rattle.esx_writing.proofs.WritingLemmas.{passes_more, passes_same, passes_stop, puts_error}
use Rattle.esx_check.proofs.DifferenceLemmas.{signed_at, signed_more, fresh_more}
use Rattle.esx_check.proofs.difference.put_behind.Goals as goal

pub returns-in_err-put_byte-clause-bytes : goal.returns-in_err-put_byte-clause-bytes
returns-in_err-put_byte-clause-bytes g c =
    puts_error (g.W.Sink.contents c.args.sink.now) (g.W.Sink.contents c.put_byte.new.sink) c.args.held.now c.put_byte.new.held
    (behind g.S.Sign.text c.args.text.now) c.from_residual.result c.from_residual.ensures.0
    (passes_stop _ _ _ c.args.held.now c.loop-byte.held _ _ _ _
    (signed_at c.args.text.now c.loop-byte.byte-index c.loop-byte-test.true g.S.Sign.text c.loop-byte.fresh c.loop-byte.invariant.fresh)
    c.loop-byte.invariant.passed c.in_err-put_byte.ensures.bytes)

pub loop-byte-preserved : goal.loop-byte-preserved
loop-byte-preserved g c =
    let now = c.loop-byte.invariant in
    let more = signed_more c.args.text.now c.loop-byte.byte-index c.loop-byte-test.true g.S.Sign.text c.loop-byte.fresh now.fresh in
    record {
      passed = passes_same _ _ c.args.held.now c.put_byte.new.held _ _ more (passes_more _ _ _ c.args.held.now c.loop-byte.held _ _ _ now.passed c.in_ok-put_byte.ensures.bytes);
      fresh = fresh_more c.args.text.now c.loop-byte.byte-index c.loop-byte-test.true;
      failures = omega (arith, c.in_ok-put_byte.ensures.failures, now.failures);
      flushes = c.put_byte.ensures.flushes ∙ now.flushes;
    }
