use Rattle.std.proofs.Common.{◌++◌}
use Rattle.esx_replies.specs.Replies.{before_text, tried_texts, after_text}
use Rattle.esx_replies.proofs.OneLineLemmas.{before_line}
use Rattle.esx_replies.proofs.SignLemmas.{line_closed}
use Rattle.esx_replies.proofs.PuttingLemmas.{both_failed, both_put, both_utf8}
use Rattle.esx_replies.proofs.sides.put_body.Goals as goal

pub returns-in_err-put_before_line-clause-bytes : goal.returns-in_err-put_before_line-clause-bytes
returns-in_err-put_before_line-clause-bytes g c =
    both_failed g.S.Sign.text (g.W.Sink.contents c.args.sink.now) (g.W.Sink.contents c.put_before_line.new.sink) c.args.held.now c.put_before_line.new.held (before_text c.args.sides.now.before)
    (tried_texts 1 c.args.sides.now.replies ++ after_text c.args.sides.now.after) c.from_residual.result c.from_residual.ensures.0
    (line_closed g.S.Sign.text (before_text c.args.sides.now.before) (before_line c.args.sides.now.before)) c.in_err-put_before_line.ensures.bytes

pub returns-clause-bytes : goal.returns-clause-bytes
returns-clause-bytes g c =
    both_put g.S.Sign.text (g.W.Sink.contents c.args.sink.now) (g.W.Sink.contents c.put_before_line.new.sink) (g.W.Sink.contents c.put_tail.new.sink)
    c.args.held.now c.put_before_line.new.held c.put_tail.new.held (before_text c.args.sides.now.before)
    (tried_texts 1 c.args.sides.now.replies ++ after_text c.args.sides.now.after) c.put_tail.result
    (line_closed g.S.Sign.text (before_text c.args.sides.now.before) (before_line c.args.sides.now.before)) c.in_ok-put_before_line.ensures.bytes (rw c.as_slice.ensures at c.put_tail.ensures.bytes)

pub returns-clause-utf8 : goal.returns-clause-utf8
returns-clause-utf8 g c =
    both_utf8 g.S.Sign.text (before_text c.args.sides.now.before)
    (tried_texts 1 c.args.sides.now.replies ++ after_text c.args.sides.now.after) c.put_tail.result
    (line_closed g.S.Sign.text (before_text c.args.sides.now.before) (before_line c.args.sides.now.before)) c.in_ok-put_before_line.ensures.utf8 (rw c.as_slice.ensures at c.put_tail.ensures.utf8)
