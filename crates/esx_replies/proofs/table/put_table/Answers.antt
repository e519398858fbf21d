use Rattle.std.proofs.Common.{◌++◌, flat_map}
use Rattle.esx_replies.specs.Texts.{sum_text}
use Rattle.esx_replies.specs.Replies.{table_head, row_text}
use Rattle.esx_replies.proofs.OneLineLemmas.{head_line}
use Rattle.esx_replies.proofs.PuttingLemmas.{head_failed, head_put, head_utf8}
use Rattle.esx_replies.proofs.table.put_table.Goals as goal

pub returns-in_err-put_head-clause-bytes : goal.returns-in_err-put_head-clause-bytes
returns-in_err-put_head-clause-bytes g c =
    head_failed g.S.Sign.text (g.W.Sink.contents c.args.sink.now) (g.W.Sink.contents c.put_head.new.sink) c.args.held.now c.put_head.new.held table_head
    (flat_map row_text c.args.rows.now ++ sum_text c.args.sum) c.from_residual.result c.from_residual.ensures.0
    head_line c.in_err-put_head.ensures.bytes

pub returns-clause-bytes : goal.returns-clause-bytes
returns-clause-bytes g c =
    head_put g.S.Sign.text (g.W.Sink.contents c.args.sink.now) (g.W.Sink.contents c.put_head.new.sink) (g.W.Sink.contents c.put_rows_and_sum.new.sink)
    c.args.held.now c.put_head.new.held c.put_rows_and_sum.new.held table_head
    (flat_map row_text c.args.rows.now ++ sum_text c.args.sum) c.put_rows_and_sum.result
    head_line c.in_ok-put_head.ensures.bytes c.put_rows_and_sum.ensures.bytes

pub returns-clause-utf8 : goal.returns-clause-utf8
returns-clause-utf8 g c =
    head_utf8 g.S.Sign.text table_head
    (flat_map row_text c.args.rows.now ++ sum_text c.args.sum) c.put_rows_and_sum.result
    head_line c.in_ok-put_head.ensures.utf8 c.put_rows_and_sum.ensures.utf8
