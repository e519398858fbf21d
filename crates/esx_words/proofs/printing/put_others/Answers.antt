use Rattle.std.proofs.Common.{flat_map, arith, ◌∙◌}
use Rattle.esx_words.specs.Printing.{next_text}
use Rattle.esx_writing.proofs.WritingLemmas.{passes_more, passes_same, passes_stop, puts_error, flat_item_at, flat_item_more, utf8_more}
use Rattle.esx_words.proofs.printing.put_others.Goals as goal

pub returns-in_err-put_next-clause-bytes : goal.returns-in_err-put_next-clause-bytes
returns-in_err-put_next-clause-bytes g c =
    puts_error (g.W.Sink.contents c.args.sink.now) (g.W.Sink.contents c.put_next.new.sink) c.args.held.now c.put_next.new.held
    (flat_map next_text c.args.events.now) c.from_residual.result c.from_residual.ensures.0
    (passes_stop _ _ _ c.args.held.now c.loop-event.held _ _ _ _
    (flat_item_at next_text c.args.events.now c.loop-event.event-index c.event-item.result c.loop-event-test.true c.event-item.is) c.loop-event.invariant.passed
    c.in_err-put_next.ensures.bytes)

pub loop-event-preserved : goal.loop-event-preserved
loop-event-preserved g c = record {
  passed = passes_same _ _ c.args.held.now c.put_next.new.held _ _ (flat_item_more next_text c.args.events.now c.loop-event.event-index c.event-item.result c.loop-event-test.true c.event-item.is)
      (passes_more _ _ _ c.args.held.now c.loop-event.held _ _ _ c.loop-event.invariant.passed c.in_ok-put_next.ensures.bytes);
  utf8 = utf8_more _ _ _ (flat_item_more next_text c.args.events.now c.loop-event.event-index c.event-item.result c.loop-event-test.true c.event-item.is) c.loop-event.invariant.utf8 c.in_ok-put_next.ensures.utf8;
  failures = omega (arith, c.in_ok-put_next.ensures.failures, c.loop-event.invariant.failures);
  flushes = c.put_next.ensures.flushes ∙ c.loop-event.invariant.flushes;
}
