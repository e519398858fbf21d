use Rattle.std.proofs.Common.{flat_map, arith, ◌∙◌, subst, sym}
use Rattle.esx_report.specs.LossTable.{loss_line}
use Rattle.std.proofs.lemmas.List.Elements.{All-get_or}
use Rattle.esx_story.specs.Order.{HasGoodRows}
use Rattle.esx_report.specs.declared.losses.LossLine.{LossLine}
use Rattle.esx_writing.proofs.WritingLemmas.{passes_more, passes_same, passes_stop, puts_error, flat_item_at, flat_item_more}
use Rattle.esx_report.proofs.tables.put_loss_lines.Goals as goal

pub returns-in_err-put_loss_line-clause-bytes : goal.returns-in_err-put_loss_line-clause-bytes
returns-in_err-put_loss_line-clause-bytes g c =
    puts_error (g.W.Sink.contents c.args.sink.now) (g.W.Sink.contents c.put_loss_line.new.sink) c.args.held.now c.put_loss_line.new.held
    (flat_map loss_line c.args.lines.now) c.from_residual.result c.from_residual.ensures.0
    (passes_stop _ _ _ c.args.held.now c.loop-line.held _ _ _ _
    (flat_item_at loss_line c.args.lines.now c.loop-line.line-index c.line-item.result c.loop-line-test.true c.line-item.is) c.loop-line.invariant.passed
    c.in_err-put_loss_line.ensures.bytes)

pub loop-line-preserved : goal.loop-line-preserved
loop-line-preserved g c = record {
  passed = passes_same _ _ c.args.held.now c.put_loss_line.new.held _ _ (flat_item_more loss_line c.args.lines.now c.loop-line.line-index c.line-item.result c.loop-line-test.true c.line-item.is)
      (passes_more _ _ _ c.args.held.now c.loop-line.held _ _ _ c.loop-line.invariant.passed c.in_ok-put_loss_line.ensures.bytes);
  failures = omega (arith, c.in_ok-put_loss_line.ensures.failures, c.loop-line.invariant.failures);
  flushes = c.put_loss_line.ensures.flushes ∙ c.loop-line.invariant.flushes;
}

pub put_loss_line-requires : goal.put_loss_line-requires
put_loss_line-requires g c =
    let IsGood : LossLine → Type 0 = λ line. HasGoodRows line.loss.seen.order in
    subst IsGood (sym c.line-item.is) (All-get_or IsGood c.args.lines.now c.loop-line.line-index c.line-item.result c.loop-line-test.true c.requires)
