use Rattle.std.proofs.Common.{take, arith, ◌∙◌, ◌+◌}
use Rattle.esx_replies.specs.Signs.{behind}
use Rattle.esx_replies.specs.Replies.{tried_texts}
use Rattle.esx_replies.proofs.SignLemmas.{behind_at, behind_more}
use Rattle.esx_replies.proofs.OneLineLemmas.{tried_closed, numbered_closed}
use Rattle.esx_replies.proofs.SidesLemmas.{tried_at, tried_more}
use Rattle.esx_writing.proofs.WritingLemmas.{passes_more, passes_same, passes_stop, puts_error, utf8_more}
use Rattle.esx_replies.proofs.sides.put_all_tried.Goals as goal

pub returns-in_err-put_numbered_line-clause-bytes : goal.returns-in_err-put_numbered_line-clause-bytes
returns-in_err-put_numbered_line-clause-bytes g c =
    puts_error (g.W.Sink.contents c.args.sink.now) (g.W.Sink.contents c.put_numbered_line.new.sink) c.args.held.now c.put_numbered_line.new.held
    (behind g.S.Sign.text (tried_texts 1 c.args.replies.now)) c.from_residual.result c.from_residual.ensures.0
    (passes_stop _ _ _ c.args.held.now c.loop-reply.held _ _ _ _
    (behind_at g.S.Sign.text _ _ _ _ (tried_at 1 _ c.args.replies.now c.loop-reply.reply-index c.reply-item.result c.loop-reply-test.true c.reply-item.is (omega (arith, c.loop-reply.invariant.counted)))
    (tried_closed g.S.Sign.text 1 (take c.loop-reply.reply-index c.args.replies.now)) (numbered_closed g.S.Sign.text (c.loop-reply.number + 1) c.reply-item.result)) c.loop-reply.invariant.passed
    c.in_err-put_numbered_line.ensures.bytes)

pub loop-reply-preserved : goal.loop-reply-preserved
loop-reply-preserved g c =
    let more = behind_more g.S.Sign.text _ _ _ (tried_more 1 (c.loop-reply.number + 1) c.args.replies.now c.loop-reply.reply-index c.reply-item.result c.loop-reply-test.true c.reply-item.is (omega (arith, c.loop-reply.invariant.counted)))
    (tried_closed g.S.Sign.text 1 (take c.loop-reply.reply-index c.args.replies.now)) in
    record {
      counted = omega (arith, c.loop-reply.invariant.counted);
      passed = passes_same _ _ c.args.held.now c.put_numbered_line.new.held _ _ more
          (passes_more _ _ _ c.args.held.now c.loop-reply.held _ _ _ c.loop-reply.invariant.passed c.in_ok-put_numbered_line.ensures.bytes);
      utf8 = utf8_more _ _ _ more c.loop-reply.invariant.utf8 c.in_ok-put_numbered_line.ensures.utf8;
      failures = omega (arith, c.in_ok-put_numbered_line.ensures.failures, c.loop-reply.invariant.failures);
      flushes = c.put_numbered_line.ensures.flushes ∙ c.loop-reply.invariant.flushes;
    }
