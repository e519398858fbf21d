use Rattle.std.proofs.Common.{◌∙◌}
use Rattle.esx_program.proofs.OutgoingLemmas.{sends_more, took_some}
use Rattle.esx_program.proofs.outgoing.send.Goals as goal

pub loop-sink-preserved : goal.loop-sink-preserved
loop-sink-preserved g c =
    let i = c.loop-sink.invariant in
    record {
      bytes = rw c.cut.ensures (sends_more (g.W.Sink.contents c.args.sink.now) (g.W.Sink.contents c.loop-sink.sink) (g.W.Sink.contents c.write.new.self)
          c.args.waiting.now c.loop-sink.waiting c.in_ok-count.count i.bytes (rw c.as_slice-in-loop-sink.ensures at c.in_ok-count.ensures.bytes));
      failures = took_some _ c.in_ok-count.count _ _ c.write.result c.in_ok-count.was c.if-count-eq0.false c.write.ensures.failures ∙ i.failures;
      flushes = c.write.ensures.flushes ∙ i.flushes;
    }
