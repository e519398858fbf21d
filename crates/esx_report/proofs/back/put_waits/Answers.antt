use Rattle.std.proofs.Common.{arith}
use Rattle.esx_report.proofs.WhyLemmas.{puts_same, many_waits}
use Rattle.esx_report.proofs.back.put_waits.Goals as goal

pub returns-then-waits-eq1-clause-bytes : goal.returns-then-waits-eq1-clause-bytes
returns-then-waits-eq1-clause-bytes g c = rw c.if-waits-eq1.true c.put_line.ensures.bytes

pub returns-clause-bytes : goal.returns-clause-bytes
returns-clause-bytes g c =
    puts_same (g.W.Sink.contents c.args.sink.now) (g.W.Sink.contents c.put_parts.new.sink) c.args.held.now c.put_parts.new.held _ _ c.put_parts.result
    (many_waits c.args.waits (λ is. omega (arith, is)) (λ is. omega (arith, is))) c.put_parts.ensures.bytes
