use Rattle.esx_replies.specs.Replies.{mark_text}
use Rattle.esx_replies.proofs.OneLineLemmas.{mark_line, mark_some}
use Rattle.esx_replies.proofs.PuttingLemmas.{sign_failed, signed_line, signed_line_utf8}
use Rattle.esx_replies.proofs.marks.put_mark_line.Goals as goal

pub returns-in_err-put-clause-bytes : goal.returns-in_err-put-clause-bytes
returns-in_err-put-clause-bytes g c =
    sign_failed g.S.Sign.text (g.W.Sink.contents c.args.sink.now) (g.W.Sink.contents c.put.new.sink) c.args.held.now c.put.new.held (mark_text c.args.row.now)
    c.from_residual.result c.from_residual.ensures.0 (mark_some c.args.row.now) c.in_err-put.ensures.bytes

pub returns-clause-bytes : goal.returns-clause-bytes
returns-clause-bytes g c =
    signed_line g.S.Sign.text (g.W.Sink.contents c.args.sink.now) (g.W.Sink.contents c.put.new.sink) (g.W.Sink.contents c.put_mark.new.sink)
    c.args.held.now c.put.new.held c.put_mark.new.held (mark_text c.args.row.now) c.put_mark.result (mark_line c.args.row.now c.put_mark.ensures.named) c.in_ok-put.ensures.bytes c.put_mark.ensures.bytes

pub returns-clause-utf8 : goal.returns-clause-utf8
returns-clause-utf8 g c = signed_line_utf8 g.S.Sign.text (mark_text c.args.row.now) c.put_mark.result (mark_line c.args.row.now c.put_mark.ensures.named) c.in_ok-put.ensures.utf8 c.put_mark.ensures.utf8
