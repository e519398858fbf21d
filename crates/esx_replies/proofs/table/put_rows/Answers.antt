use Rattle.std.proofs.Common.{flat_map, take, arith, ◌∙◌}
use Rattle.esx_replies.specs.Signs.{behind}
use Rattle.esx_replies.specs.Replies.{row_text}
use Rattle.esx_replies.proofs.SignLemmas.{behind_at, behind_more}
use Rattle.esx_replies.proofs.OneLineLemmas.{rows_closed, row_closed}
use Rattle.esx_writing.proofs.WritingLemmas.{passes_more, passes_same, passes_stop, puts_error, flat_item_at, flat_item_more, utf8_more}
use Rattle.esx_replies.proofs.table.put_rows.Goals as goal

pub returns-in_err-put_row_line-clause-bytes : goal.returns-in_err-put_row_line-clause-bytes
returns-in_err-put_row_line-clause-bytes g c =
    puts_error (g.W.Sink.contents c.args.sink.now) (g.W.Sink.contents c.put_row_line.new.sink) c.args.held.now c.put_row_line.new.held
    (behind g.S.Sign.text (flat_map row_text c.args.rows.now)) c.from_residual.result c.from_residual.ensures.0
    (passes_stop _ _ _ c.args.held.now c.loop-row.held _ _ _ _
    (behind_at g.S.Sign.text _ _ _ _ (flat_item_at row_text c.args.rows.now c.loop-row.row-index c.row-item.result c.loop-row-test.true c.row-item.is)
    (rows_closed g.S.Sign.text (take c.loop-row.row-index c.args.rows.now)) (row_closed g.S.Sign.text c.row-item.result)) c.loop-row.invariant.passed
    c.in_err-put_row_line.ensures.bytes)

pub loop-row-preserved : goal.loop-row-preserved
loop-row-preserved g c =
    let more = behind_more g.S.Sign.text _ _ _ (flat_item_more row_text c.args.rows.now c.loop-row.row-index c.row-item.result c.loop-row-test.true c.row-item.is)
    (rows_closed g.S.Sign.text (take c.loop-row.row-index c.args.rows.now)) in
    record {
      passed = passes_same _ _ c.args.held.now c.put_row_line.new.held _ _ more
          (passes_more _ _ _ c.args.held.now c.loop-row.held _ _ _ c.loop-row.invariant.passed c.in_ok-put_row_line.ensures.bytes);
      utf8 = utf8_more _ _ _ more c.loop-row.invariant.utf8 c.in_ok-put_row_line.ensures.utf8;
      failures = omega (arith, c.in_ok-put_row_line.ensures.failures, c.loop-row.invariant.failures);
      flushes = c.put_row_line.ensures.flushes ∙ c.loop-row.invariant.flushes;
    }
