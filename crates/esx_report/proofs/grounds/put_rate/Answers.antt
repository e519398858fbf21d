use Rattle.std.proofs.Common.{refl}
use Rattle.esx_writing.proofs.WritingLemmas.{first_failed, puts_after}
use Rattle.esx_report.specs.Why.{order_text, rate_head}
use Rattle.esx_report.proofs.grounds.put_rate.Goals as goal

pub returns-in_err-put_rate_head-clause-bytes : goal.returns-in_err-put_rate_head-clause-bytes
returns-in_err-put_rate_head-clause-bytes g c =
    first_failed (g.W.Sink.contents c.args.sink.now) (g.W.Sink.contents c.put_rate_head.new.sink) c.args.held.now c.put_rate_head.new.held (rate_head c.args.line.now.loss.seen.order.own c.args.line.now.loss.seen.own) (rate_head c.args.line.now.loss.seen.order.own c.args.line.now.loss.seen.own) (order_text c.args.line.now.loss)
    c.from_residual.result c.from_residual.ensures.0 refl c.in_err-put_rate_head.ensures.bytes

pub returns-clause-bytes : goal.returns-clause-bytes
returns-clause-bytes g c =
    puts_after (g.W.Sink.contents c.args.sink.now) (g.W.Sink.contents c.put_rate_head.new.sink) (g.W.Sink.contents c.put_order.new.sink) c.args.held.now c.put_rate_head.new.held c.put_order.new.held
    (rate_head c.args.line.now.loss.seen.order.own c.args.line.now.loss.seen.own) (rate_head c.args.line.now.loss.seen.order.own c.args.line.now.loss.seen.own) (order_text c.args.line.now.loss) (order_text c.args.line.now.loss) c.put_order.result refl refl c.in_ok-put_rate_head.ensures.bytes c.put_order.ensures.bytes
