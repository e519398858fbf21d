use Rattle.std.proofs.Common.{flat_map, arith, ◌∙◌}
use Rattle.esx_report.specs.Fields.{part_text}
use Rattle.esx_writing.proofs.WritingLemmas.{passes_more, passes_same, passes_stop, puts_error, flat_parts_at, flat_parts_more}
use Rattle.esx_report.proofs.part.put_parts.Goals as goal

pub returns-in_err-put_part-clause-bytes : goal.returns-in_err-put_part-clause-bytes
returns-in_err-put_part-clause-bytes g c =
    puts_error (g.W.Sink.contents c.args.sink.now) (g.W.Sink.contents c.put_part.new.sink) c.args.held.now c.put_part.new.held
    (flat_map part_text c.args.parts.now) c.from_residual.result c.from_residual.ensures.0
    (passes_stop _ _ _ c.args.held.now c.loop-part.held _ _ _ _
    (flat_parts_at part_text c.args.parts.now c.loop-part.part-index _ c.loop-part-test.true) c.loop-part.invariant.passed
    c.in_err-put_part.ensures.bytes)

pub loop-part-preserved : goal.loop-part-preserved
loop-part-preserved g c = record {
  passed = passes_same _ _ c.args.held.now c.put_part.new.held _ _ (flat_parts_more part_text c.args.parts.now c.loop-part.part-index _ c.loop-part-test.true)
      (passes_more _ _ _ c.args.held.now c.loop-part.held _ _ _ c.loop-part.invariant.passed c.in_ok-put_part.ensures.bytes);
  failures = omega (arith, c.in_ok-put_part.ensures.failures, c.loop-part.invariant.failures);
  flushes = c.put_part.ensures.flushes ∙ c.loop-part.invariant.flushes;
}
