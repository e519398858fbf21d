use Rattle.esx_replies.specs.Replies.{row_text}
use Rattle.esx_replies.proofs.SignLemmas.{line_some}
use Rattle.esx_replies.proofs.OneLineLemmas.{row_line}
use Rattle.esx_replies.proofs.PuttingLemmas.{sign_failed, signed_line, signed_line_utf8}
use Rattle.esx_replies.proofs.table.put_row_line.Goals as goal

pub returns-in_err-put-clause-bytes : goal.returns-in_err-put-clause-bytes
returns-in_err-put-clause-bytes g c =
    sign_failed g.S.Sign.text (g.W.Sink.contents c.args.sink.now) (g.W.Sink.contents c.put.new.sink) c.args.held.now c.put.new.held (row_text c.args.row.now)
    c.from_residual.result c.from_residual.ensures.0 (line_some (row_text c.args.row.now) (row_line c.args.row.now)) c.in_err-put.ensures.bytes

pub returns-clause-bytes : goal.returns-clause-bytes
returns-clause-bytes g c =
    signed_line g.S.Sign.text (g.W.Sink.contents c.args.sink.now) (g.W.Sink.contents c.put.new.sink) (g.W.Sink.contents c.put_row.new.sink)
    c.args.held.now c.put.new.held c.put_row.new.held (row_text c.args.row.now) c.put_row.result (row_line c.args.row.now) c.in_ok-put.ensures.bytes c.put_row.ensures.bytes

pub returns-clause-utf8 : goal.returns-clause-utf8
returns-clause-utf8 g c = signed_line_utf8 g.S.Sign.text (row_text c.args.row.now) c.put_row.result (row_line c.args.row.now) c.in_ok-put.ensures.utf8 c.put_row.ensures.utf8
