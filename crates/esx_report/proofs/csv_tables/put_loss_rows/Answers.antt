use Rattle.std.proofs.Common.{flat_map, arith, ◌∙◌, subst, sym}
use Rattle.esx_report.specs.Losses.{loss_row}
use Rattle.std.proofs.lemmas.List.Elements.{All-get_or}
use Rattle.esx_story.specs.Order.{HasGoodRows}
use Rattle.esx_report.specs.declared.losses.LossLine.{LossLine}
use Rattle.esx_writing.proofs.WritingLemmas.{passes_more, passes_same, passes_stop, puts_error, flat_item_at, flat_item_more}
use Rattle.esx_report.proofs.csv_tables.put_loss_rows.Goals as goal

pub returns-in_err-put_loss-clause-bytes : goal.returns-in_err-put_loss-clause-bytes
returns-in_err-put_loss-clause-bytes g c =
    puts_error (g.W.Sink.contents c.args.sink.now) (g.W.Sink.contents c.put_loss.new.sink) c.args.held.now c.put_loss.new.held
    (flat_map loss_row c.args.lines.now) c.from_residual.result c.from_residual.ensures.0
    (passes_stop _ _ _ c.args.held.now c.loop-line.held _ _ _ _
    (flat_item_at loss_row c.args.lines.now c.loop-line.line-index c.line-item.result c.loop-line-test.true c.line-item.is) c.loop-line.invariant.passed
    c.in_err-put_loss.ensures.bytes)

pub loop-line-preserved : goal.loop-line-preserved
loop-line-preserved g c = record {
  passed = passes_same _ _ c.args.held.now c.put_loss.new.held _ _ (flat_item_more loss_row c.args.lines.now c.loop-line.line-index c.line-item.result c.loop-line-test.true c.line-item.is)
      (passes_more _ _ _ c.args.held.now c.loop-line.held _ _ _ c.loop-line.invariant.passed c.in_ok-put_loss.ensures.bytes);
  failures = omega (arith, c.in_ok-put_loss.ensures.failures, c.loop-line.invariant.failures);
  flushes = c.put_loss.ensures.flushes ∙ c.loop-line.invariant.flushes;
}

pub put_loss-requires : goal.put_loss-requires
put_loss-requires g c =
    let IsGood : LossLine → Type 0 = λ line. HasGoodRows line.loss.seen.order in
    subst IsGood (sym c.line-item.is) (All-get_or IsGood c.args.lines.now c.loop-line.line-index c.line-item.result c.loop-line-test.true c.requires)
