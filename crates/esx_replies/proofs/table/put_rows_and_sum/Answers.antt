use Rattle.std.proofs.Common.{flat_map}
use Rattle.esx_replies.specs.Texts.{sum_text}
use Rattle.esx_replies.specs.Replies.{row_text}
use Rattle.esx_replies.proofs.OneLineLemmas.{rows_closed}
use Rattle.esx_replies.proofs.PuttingLemmas.{both_failed, both_put, both_utf8}
use Rattle.esx_replies.proofs.table.put_rows_and_sum.Goals as goal

pub returns-in_err-put_rows-clause-bytes : goal.returns-in_err-put_rows-clause-bytes
returns-in_err-put_rows-clause-bytes g c =
    both_failed g.S.Sign.text (g.W.Sink.contents c.args.sink.now) (g.W.Sink.contents c.put_rows.new.sink) c.args.held.now c.put_rows.new.held (flat_map row_text c.args.rows.now)
    (sum_text c.args.sum) c.from_residual.result c.from_residual.ensures.0
    (rows_closed g.S.Sign.text c.args.rows.now) c.in_err-put_rows.ensures.bytes

pub returns-clause-bytes : goal.returns-clause-bytes
returns-clause-bytes g c =
    both_put g.S.Sign.text (g.W.Sink.contents c.args.sink.now) (g.W.Sink.contents c.put_rows.new.sink) (g.W.Sink.contents c.put_sum_line.new.sink)
    c.args.held.now c.put_rows.new.held c.put_sum_line.new.held (flat_map row_text c.args.rows.now)
    (sum_text c.args.sum) c.put_sum_line.result
    (rows_closed g.S.Sign.text c.args.rows.now) c.in_ok-put_rows.ensures.bytes c.put_sum_line.ensures.bytes

pub returns-clause-utf8 : goal.returns-clause-utf8
returns-clause-utf8 g c =
    both_utf8 g.S.Sign.text (flat_map row_text c.args.rows.now)
    (sum_text c.args.sum) c.put_sum_line.result
    (rows_closed g.S.Sign.text c.args.rows.now) c.in_ok-put_rows.ensures.utf8 c.put_sum_line.ensures.utf8
