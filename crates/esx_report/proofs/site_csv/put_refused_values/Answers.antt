use Rattle.std.proofs.Common.{arith, ◌∙◌}
use Rattle.esx_report.specs.SiteTable.{refused_values}
use Rattle.esx_report.proofs.RefusalLemmas.{refusals_all, refusals_at, refusals_more}
use Rattle.esx_writing.proofs.WritingLemmas.{passes_more, passes_same, passes_stop, puts_error}
use Rattle.esx_report.proofs.site_csv.put_refused_values.Goals as goal

pub returns-in_err-put_refusal_value-clause-bytes : goal.returns-in_err-put_refusal_value-clause-bytes
returns-in_err-put_refusal_value-clause-bytes g c =
    puts_error (g.W.Sink.contents c.args.sink.now) (g.W.Sink.contents c.put_refusal_value.new.sink) c.args.held.now c.put_refusal_value.new.held
    (refused_values c.args.refusals.now) c.from_residual.result c.from_residual.ensures.0
    (passes_stop _ _ _ c.args.held.now c.loop-number.held _ _ _ _
    (refusals_at c.args.refusals.now c.loop-number.number c.loop-number-test.true) c.loop-number.invariant.passed
    c.in_err-put_refusal_value.ensures.bytes)

pub loop-number-preserved : goal.loop-number-preserved
loop-number-preserved g c = record {
  passed = passes_same _ _ c.args.held.now c.put_refusal_value.new.held _ _ (refusals_more c.args.refusals.now c.loop-number.number c.loop-number-test.true)
      (passes_more _ _ _ c.args.held.now c.loop-number.held _ _ _ c.loop-number.invariant.passed c.in_ok-put_refusal_value.ensures.bytes);
  failures = omega (arith, c.in_ok-put_refusal_value.ensures.failures, c.loop-number.invariant.failures);
  flushes = c.put_refusal_value.ensures.flushes ∙ c.loop-number.invariant.flushes;
}

pub returns-clause-bytes : goal.returns-clause-bytes
returns-clause-bytes g c = passes_same _ _ c.args.held.now c.loop-number.held _ _ (refusals_all c.args.refusals.now c.loop-number.number c.loop-number-test.false) c.loop-number.invariant.passed
