use Rattle.std.proofs.Common.{◌∙◌}
use Rattle.esx_writing.proofs.WritingLemmas.{one_write_more, took_some}
use Rattle.esx_writing.proofs.buffer.put_all.Goals as goal

pub loop-rest-preserved : goal.loop-rest-preserved
loop-rest-preserved g c =
    let w = c.loop-rest.invariant.written in
    record {
      written = one_write_more _ _ _ c.args.bytes.now w.0 c.loop-rest.rest.now _ c.in_ok-count.count c.split_at.ensures.back w.1 w.2 c.in_ok-count.ensures.bytes;
      failures = took_some _ c.in_ok-count.count _ _ c.write.result c.in_ok-count.was c.if-count-eq0.false c.write.ensures.failures ∙ c.loop-rest.invariant.failures;
      flushes = c.write.ensures.flushes ∙ c.loop-rest.invariant.flushes;
    }
