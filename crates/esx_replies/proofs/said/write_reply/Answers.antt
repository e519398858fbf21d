use Rattle.esx_replies.specs.Replies.{reply_text}
use Rattle.esx_writing.proofs.WritingLemmas.{ends_writing, writes_error, utf8_at_success}
use Rattle.esx_replies.proofs.SignLemmas.{behind_none}
use Rattle.esx_replies.proofs.said.write_reply.Goals as goal

pub returns-clause-bytes : goal.returns-clause-bytes
returns-clause-bytes g c =
    ends_writing (g.W.Sink.contents c.args.sink.now) (g.W.Sink.contents c.put_reply.new.sink) (g.W.Sink.contents c.write_held.new.sink)
    c.args.held.now c.put_reply.new.held (reply_text c.args.reply.now) c.write_held.result c.requires
    (rw (behind_none (reply_text c.args.reply.now)) at c.in_ok-put_reply.ensures.bytes) c.write_held.ensures.bytes

pub returns-in_err-put_reply-clause-bytes : goal.returns-in_err-put_reply-clause-bytes
returns-in_err-put_reply-clause-bytes g c =
    writes_error (g.W.Sink.contents c.args.sink.now) (g.W.Sink.contents c.put_reply.new.sink) c.args.held.now (reply_text c.args.reply.now)
    c.from_residual.result c.from_residual.ensures.0 c.requires (rw (behind_none (reply_text c.args.reply.now)) at c.in_err-put_reply.ensures.bytes.0)

pub returns-clause-utf8 : goal.returns-clause-utf8
returns-clause-utf8 g c = utf8_at_success (reply_text c.args.reply.now) c.write_held.result (rw (behind_none (reply_text c.args.reply.now)) at c.in_ok-put_reply.ensures.utf8)
