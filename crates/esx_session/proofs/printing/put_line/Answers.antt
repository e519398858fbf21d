use Rattle.std.proofs.Common.{refl, codes}
use Rattle.esx_replies.specs.Signs.{behind}
use Rattle.esx_replies.specs.Replies.{reply_text}
use Rattle.esx_session.specs.Sessions.{call_text, logged, quoted}
use Rattle.esx_session.proofs.PuttingLemmas.{behind_quotes}
use Rattle.esx_writing.proofs.WritingLemmas.{first_failed, puts_after, utf8_after}
use Rattle.esx_session.proofs.printing.put_line.Goals as goal

pub returns-in_err-put_call-clause-bytes : goal.returns-in_err-put_call-clause-bytes
returns-in_err-put_call-clause-bytes g c =
    first_failed (g.W.Sink.contents c.args.sink.now) (g.W.Sink.contents c.put_call.new.sink) c.args.held.now c.put_call.new.held (call_text (logged c.args.line.now)) (call_text (logged c.args.line.now)) (quoted (reply_text c.args.line.now.reply))
    c.from_residual.result c.from_residual.ensures.0 refl c.in_err-put_call.ensures.bytes

pub returns-clause-bytes : goal.returns-clause-bytes
returns-clause-bytes g c =
    puts_after (g.W.Sink.contents c.args.sink.now) (g.W.Sink.contents c.put_call.new.sink) (g.W.Sink.contents c.put_reply.new.sink) c.args.held.now c.put_call.new.held c.put_reply.new.held
    (call_text (logged c.args.line.now)) (call_text (logged c.args.line.now)) (behind (codes "= ") (reply_text c.args.line.now.reply)) (quoted (reply_text c.args.line.now.reply)) c.put_reply.result
    refl (behind_quotes (reply_text c.args.line.now.reply)) c.in_ok-put_call.ensures.bytes c.put_reply.ensures.bytes

pub returns-clause-utf8 : goal.returns-clause-utf8
returns-clause-utf8 g c = utf8_after (call_text (logged c.args.line.now)) (quoted (reply_text c.args.line.now.reply)) c.put_reply.result c.in_ok-put_call.ensures.utf8
    (rw (behind_quotes (reply_text c.args.line.now.reply)) at c.put_reply.ensures.utf8)
