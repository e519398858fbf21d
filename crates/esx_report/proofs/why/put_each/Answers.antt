use Rattle.std.proofs.Common.{flat_map, arith, ◌∙◌, subst, sym}
use Rattle.esx_report.specs.Why.{why_text}
use Rattle.std.proofs.lemmas.List.Elements.{All-get_or}
use Rattle.esx_story.specs.Order.{HasGoodRows}
use Rattle.esx_report.specs.declared.why.Why.{Why}
use Rattle.esx_writing.proofs.WritingLemmas.{passes_more, passes_same, passes_stop, puts_error, flat_item_at, flat_item_more}
use Rattle.esx_report.proofs.why.put_each.Goals as goal

pub returns-in_err-put_why-clause-bytes : goal.returns-in_err-put_why-clause-bytes
returns-in_err-put_why-clause-bytes g c =
    puts_error (g.W.Sink.contents c.args.sink.now) (g.W.Sink.contents c.put_why.new.sink) c.args.held.now c.put_why.new.held
    (flat_map why_text c.args.whys.now) c.from_residual.result c.from_residual.ensures.0
    (passes_stop _ _ _ c.args.held.now c.loop-why.held _ _ _ _
    (flat_item_at why_text c.args.whys.now c.loop-why.why-index c.why-item.result c.loop-why-test.true c.why-item.is) c.loop-why.invariant.passed
    c.in_err-put_why.ensures.bytes)

pub loop-why-preserved : goal.loop-why-preserved
loop-why-preserved g c = record {
  passed = passes_same _ _ c.args.held.now c.put_why.new.held _ _ (flat_item_more why_text c.args.whys.now c.loop-why.why-index c.why-item.result c.loop-why-test.true c.why-item.is)
      (passes_more _ _ _ c.args.held.now c.loop-why.held _ _ _ c.loop-why.invariant.passed c.in_ok-put_why.ensures.bytes);
  failures = omega (arith, c.in_ok-put_why.ensures.failures, c.loop-why.invariant.failures);
  flushes = c.put_why.ensures.flushes ∙ c.loop-why.invariant.flushes;
}

pub put_why-requires : goal.put_why-requires
put_why-requires g c =
    let IsGood : Why → Type 0 = λ why. HasGoodRows why.line.loss.seen.order in
    subst IsGood (sym c.why-item.is) (All-get_or IsGood c.args.whys.now c.loop-why.why-index c.why-item.result c.loop-why-test.true c.requires)
