use Rattle.std.proofs.Common.{refl}
use Rattle.esx_replies.specs.Replies.{number_head, tried_text}
use Rattle.esx_writing.proofs.WritingLemmas.{first_failed, puts_after, utf8_after}
use Rattle.esx_replies.proofs.sides.put_numbered.Goals as goal

pub returns-in_err-put_number-clause-bytes : goal.returns-in_err-put_number-clause-bytes
returns-in_err-put_number-clause-bytes g c =
    first_failed (g.W.Sink.contents c.args.sink.now) (g.W.Sink.contents c.put_number.new.sink) c.args.held.now c.put_number.new.held (number_head c.args.number) (number_head c.args.number) (tried_text c.args.reply.now)
    c.from_residual.result c.from_residual.ensures.0 refl c.in_err-put_number.ensures.bytes

pub returns-clause-bytes : goal.returns-clause-bytes
returns-clause-bytes g c =
    puts_after (g.W.Sink.contents c.args.sink.now) (g.W.Sink.contents c.put_number.new.sink) (g.W.Sink.contents c.put_tried.new.sink) c.args.held.now c.put_number.new.held c.put_tried.new.held
    (number_head c.args.number) (number_head c.args.number) (tried_text c.args.reply.now) (tried_text c.args.reply.now) c.put_tried.result refl refl c.in_ok-put_number.ensures.bytes c.put_tried.ensures.bytes

pub returns-clause-utf8 : goal.returns-clause-utf8
returns-clause-utf8 g c = utf8_after (number_head c.args.number) (tried_text c.args.reply.now) c.put_tried.result c.in_ok-put_number.ensures.utf8 c.put_tried.ensures.utf8
