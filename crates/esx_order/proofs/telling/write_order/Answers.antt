use Rattle.esx_order.specs.Telling.{order_text}
use Rattle.esx_writing.proofs.WritingLemmas.{ends_writing}
use Rattle.esx_order.proofs.telling.write_order.Goals as goal

pub returns-clause-bytes : goal.returns-clause-bytes
returns-clause-bytes g c =
    ends_writing (g.W.Sink.contents c.args.sink.now) (g.W.Sink.contents c.put_order.new.sink) (g.W.Sink.contents c.write_held.new.sink)
    c.args.held.now c.put_order.new.held (order_text c.args.order.now) c.write_held.result c.requires.empty c.in_ok-put_order.ensures.bytes c.write_held.ensures.bytes
