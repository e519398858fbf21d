use Rattle.std.proofs.Common.{refl, length, flat_map}
use Rattle.esx_order.specs.Telling.{above_text, order_head}
use Rattle.esx_writing.proofs.WritingLemmas.{first_failed, puts_after}
use Rattle.esx_order.proofs.telling.put_order.Goals as goal

pub returns-in_err-put_order_head-clause-bytes : goal.returns-in_err-put_order_head-clause-bytes
returns-in_err-put_order_head-clause-bytes g c =
    first_failed (g.W.Sink.contents c.args.sink.now) (g.W.Sink.contents c.put_order_head.new.sink) c.args.held.now c.put_order_head.new.held
    (order_head (length c.args.order.now)) (order_head (length c.args.order.now)) (flat_map above_text c.args.order.now)
    c.from_residual.result c.from_residual.ensures.0 refl c.in_err-put_order_head.ensures.bytes

pub returns-clause-bytes : goal.returns-clause-bytes
returns-clause-bytes g c =
    puts_after (g.W.Sink.contents c.args.sink.now) (g.W.Sink.contents c.put_order_head.new.sink) (g.W.Sink.contents c.put_all_above.new.sink)
    c.args.held.now c.put_order_head.new.held c.put_all_above.new.held
    (order_head (length c.args.order.now)) (order_head (length c.args.order.now)) (flat_map above_text c.args.order.now) (flat_map above_text c.args.order.now)
    c.put_all_above.result refl refl c.in_ok-put_order_head.ensures.bytes c.put_all_above.ensures.bytes
