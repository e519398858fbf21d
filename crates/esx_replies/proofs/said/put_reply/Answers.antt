use Rattle.esx_replies.specs.Replies.{reply_text}
use Rattle.esx_replies.proofs.OneLineLemmas.{said_some}
use Rattle.esx_replies.proofs.PuttingLemmas.{sign_failed, signed, signed_utf8}
use Rattle.esx_replies.proofs.said.put_reply.Goals as goal

pub returns-in_err-put-clause-bytes : goal.returns-in_err-put-clause-bytes
returns-in_err-put-clause-bytes g c =
    sign_failed g.S.Sign.text (g.W.Sink.contents c.args.sink.now) (g.W.Sink.contents c.put.new.sink) c.args.held.now c.put.new.held (reply_text c.args.reply.now)
    c.from_residual.result c.from_residual.ensures.0 (said_some c.args.reply.now.said c.args.reply.now.jumps) c.in_err-put.ensures.bytes

pub returns-clause-bytes : goal.returns-clause-bytes
returns-clause-bytes g c =
    signed g.S.Sign.text (g.W.Sink.contents c.args.sink.now) (g.W.Sink.contents c.put.new.sink) (g.W.Sink.contents c.put_said.new.sink)
    c.args.held.now c.put.new.held c.put_said.new.held (reply_text c.args.reply.now) c.put_said.result
    (said_some c.args.reply.now.said c.args.reply.now.jumps) c.in_ok-put.ensures.bytes c.put_said.ensures.bytes

pub returns-clause-utf8 : goal.returns-clause-utf8
returns-clause-utf8 g c =
    signed_utf8 g.S.Sign.text (reply_text c.args.reply.now) c.put_said.result
    (said_some c.args.reply.now.said c.args.reply.now.jumps) c.in_ok-put.ensures.utf8 c.put_said.ensures.utf8
