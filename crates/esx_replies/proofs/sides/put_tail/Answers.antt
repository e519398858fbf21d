use Rattle.esx_replies.specs.Replies.{tried_texts, after_text}
use Rattle.esx_replies.proofs.OneLineLemmas.{tried_closed}
use Rattle.esx_replies.proofs.PuttingLemmas.{both_failed, both_put, both_utf8}
use Rattle.esx_replies.proofs.sides.put_tail.Goals as goal

pub returns-in_err-put_all_tried-clause-bytes : goal.returns-in_err-put_all_tried-clause-bytes
returns-in_err-put_all_tried-clause-bytes g c =
    both_failed g.S.Sign.text (g.W.Sink.contents c.args.sink.now) (g.W.Sink.contents c.put_all_tried.new.sink) c.args.held.now c.put_all_tried.new.held (tried_texts 1 c.args.replies.now)
    (after_text c.args.after) c.from_residual.result c.from_residual.ensures.0
    (tried_closed g.S.Sign.text 1 c.args.replies.now) c.in_err-put_all_tried.ensures.bytes

pub returns-clause-bytes : goal.returns-clause-bytes
returns-clause-bytes g c =
    both_put g.S.Sign.text (g.W.Sink.contents c.args.sink.now) (g.W.Sink.contents c.put_all_tried.new.sink) (g.W.Sink.contents c.put_after_line.new.sink)
    c.args.held.now c.put_all_tried.new.held c.put_after_line.new.held (tried_texts 1 c.args.replies.now)
    (after_text c.args.after) c.put_after_line.result
    (tried_closed g.S.Sign.text 1 c.args.replies.now) c.in_ok-put_all_tried.ensures.bytes c.put_after_line.ensures.bytes

pub returns-clause-utf8 : goal.returns-clause-utf8
returns-clause-utf8 g c =
    both_utf8 g.S.Sign.text (tried_texts 1 c.args.replies.now)
    (after_text c.args.after) c.put_after_line.result
    (tried_closed g.S.Sign.text 1 c.args.replies.now) c.in_ok-put_all_tried.ensures.utf8 c.put_after_line.ensures.utf8
