use Rattle.std.proofs.Common.{arith}
use Rattle.esx_report.proofs.WhyLemmas.{puts_same, later_place}
use Rattle.esx_report.proofs.order.put_place.Goals as goal

pub returns-then-rank-eq1-clause-bytes : goal.returns-then-rank-eq1-clause-bytes
returns-then-rank-eq1-clause-bytes g c = rw c.if-rank-eq1.true c.put_parts.ensures.bytes

pub returns-else-rank-eq1-clause-bytes : goal.returns-else-rank-eq1-clause-bytes
returns-else-rank-eq1-clause-bytes g c =
    puts_same (g.W.Sink.contents c.args.sink.now) (g.W.Sink.contents c.put_parts-else-rank-eq1.new.sink) c.args.held.now c.put_parts-else-rank-eq1.new.held _ _ c.put_parts-else-rank-eq1.result
    (later_place c.args.rank c.args.above (λ is. omega (arith, is))) c.put_parts-else-rank-eq1.ensures.bytes
