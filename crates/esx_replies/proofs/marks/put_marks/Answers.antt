use Rattle.std.proofs.Common.{length, flat_map}
use Rattle.esx_replies.specs.Replies.{marks_head, mark_text}
use Rattle.esx_replies.proofs.OneLineLemmas.{marks_head_line}
use Rattle.esx_replies.proofs.PuttingLemmas.{head_failed, head_put, head_utf8}
use Rattle.esx_replies.proofs.marks.put_marks.Goals as goal

pub returns-in_err-put_marks_head-clause-bytes : goal.returns-in_err-put_marks_head-clause-bytes
returns-in_err-put_marks_head-clause-bytes g c =
    head_failed g.S.Sign.text (g.W.Sink.contents c.args.sink.now) (g.W.Sink.contents c.put_marks_head.new.sink) c.args.held.now c.put_marks_head.new.held (marks_head (length c.args.rows.now))
    (flat_map mark_text c.args.rows.now) c.from_residual.result c.from_residual.ensures.0
    (marks_head_line (length c.args.rows.now)) c.in_err-put_marks_head.ensures.bytes

pub returns-clause-bytes : goal.returns-clause-bytes
returns-clause-bytes g c =
    head_put g.S.Sign.text (g.W.Sink.contents c.args.sink.now) (g.W.Sink.contents c.put_marks_head.new.sink) (g.W.Sink.contents c.put_mark_rows.new.sink)
    c.args.held.now c.put_marks_head.new.held c.put_mark_rows.new.held (marks_head (length c.args.rows.now))
    (flat_map mark_text c.args.rows.now) c.put_mark_rows.result
    (marks_head_line (length c.args.rows.now)) c.in_ok-put_marks_head.ensures.bytes c.put_mark_rows.ensures.bytes

pub returns-clause-utf8 : goal.returns-clause-utf8
returns-clause-utf8 g c =
    head_utf8 g.S.Sign.text (marks_head (length c.args.rows.now))
    (flat_map mark_text c.args.rows.now) c.put_mark_rows.result
    (marks_head_line (length c.args.rows.now)) c.in_ok-put_marks_head.ensures.utf8 c.put_mark_rows.ensures.utf8
