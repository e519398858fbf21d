use Rattle.std.proofs.Common.{refl, ap, codes}
use Rattle.esx_replies.specs.Signs.{behind}
use Rattle.esx_replies.specs.Replies.{reply_text}
use Rattle.esx_writing.proofs.WritingLemmas.{first_failed, puts_after}
use Rattle.esx_check.proofs.difference.put_both.Goals as goal

pub returns-in_err-put_behind-clause-bytes : goal.returns-in_err-put_behind-clause-bytes
returns-in_err-put_behind-clause-bytes g c =
    first_failed (g.W.Sink.contents c.args.sink.now) (g.W.Sink.contents c.put_behind.new.sink) c.args.held.now c.put_behind.new.held
    (behind (codes "told: ") c.as_slice.result.now) (behind (codes "told: ") c.args.difference.now.entry.reply) (behind (codes "made: ") (reply_text c.args.difference.now.reply))
    c.from_residual.result c.from_residual.ensures.0 (ap (behind (codes "told: ")) c.as_slice.ensures) c.in_err-put_behind.ensures.bytes

pub returns-clause-bytes : goal.returns-clause-bytes
returns-clause-bytes g c =
    puts_after (g.W.Sink.contents c.args.sink.now) (g.W.Sink.contents c.put_behind.new.sink) (g.W.Sink.contents c.put_reply.new.sink)
    c.args.held.now c.put_behind.new.held c.put_reply.new.held
    (behind (codes "told: ") c.as_slice.result.now) (behind (codes "told: ") c.args.difference.now.entry.reply) (behind (codes "made: ") (reply_text c.args.difference.now.reply)) (behind (codes "made: ") (reply_text c.args.difference.now.reply))
    c.put_reply.result (ap (behind (codes "told: ")) c.as_slice.ensures) refl c.in_ok-put_behind.ensures.bytes c.put_reply.ensures.bytes
