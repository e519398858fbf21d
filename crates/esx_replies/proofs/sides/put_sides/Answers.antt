use Rattle.std.proofs.Common.{◌++◌, ◌∙◌, ap}
use Rattle.esx_replies.specs.Replies.{accepted, sides_head, before_text, tried_texts, after_text}
use Rattle.esx_replies.proofs.OneLineLemmas.{sides_head_line}
use Rattle.esx_replies.proofs.PuttingLemmas.{head_failed, head_put, head_utf8}
use Rattle.esx_replies.proofs.sides.put_sides.Goals as goal

pub returns-in_err-put_sides_head-clause-bytes : goal.returns-in_err-put_sides_head-clause-bytes
returns-in_err-put_sides_head-clause-bytes g c =
    head_failed g.S.Sign.text (g.W.Sink.contents c.args.sink.now) (g.W.Sink.contents c.put_sides_head.new.sink) c.args.held.now c.put_sides_head.new.held (sides_head (accepted c.args.sides.now.replies) c.args.sides.now.given)
    (before_text c.args.sides.now.before ++ (tried_texts 1 c.args.sides.now.replies ++ after_text c.args.sides.now.after)) c.from_residual.result c.from_residual.ensures.0
    (sides_head_line (accepted c.args.sides.now.replies) c.args.sides.now.given) (rw (c.accepted.ensures ∙ ap accepted c.as_slice.ensures) at c.in_err-put_sides_head.ensures.bytes)

pub returns-clause-bytes : goal.returns-clause-bytes
returns-clause-bytes g c =
    head_put g.S.Sign.text (g.W.Sink.contents c.args.sink.now) (g.W.Sink.contents c.put_sides_head.new.sink) (g.W.Sink.contents c.put_body.new.sink)
    c.args.held.now c.put_sides_head.new.held c.put_body.new.held (sides_head (accepted c.args.sides.now.replies) c.args.sides.now.given)
    (before_text c.args.sides.now.before ++ (tried_texts 1 c.args.sides.now.replies ++ after_text c.args.sides.now.after)) c.put_body.result
    (sides_head_line (accepted c.args.sides.now.replies) c.args.sides.now.given) (rw (c.accepted.ensures ∙ ap accepted c.as_slice.ensures) at c.in_ok-put_sides_head.ensures.bytes) c.put_body.ensures.bytes

pub returns-clause-utf8 : goal.returns-clause-utf8
returns-clause-utf8 g c =
    head_utf8 g.S.Sign.text (sides_head (accepted c.args.sides.now.replies) c.args.sides.now.given)
    (before_text c.args.sides.now.before ++ (tried_texts 1 c.args.sides.now.replies ++ after_text c.args.sides.now.after)) c.put_body.result
    (sides_head_line (accepted c.args.sides.now.replies) c.args.sides.now.given) (rw (c.accepted.ensures ∙ ap accepted c.as_slice.ensures) at c.in_ok-put_sides_head.ensures.utf8) c.put_body.ensures.utf8
