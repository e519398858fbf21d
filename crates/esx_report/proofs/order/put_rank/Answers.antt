use Rattle.std.proofs.Common.{refl}
use Rattle.esx_writing.proofs.WritingLemmas.{first_failed, puts_after}
use Rattle.esx_report.specs.Why.{other_text, place_text}
use Rattle.esx_report.proofs.order.put_rank.Goals as goal

pub returns-in_err-put_place-clause-bytes : goal.returns-in_err-put_place-clause-bytes
returns-in_err-put_place-clause-bytes g c =
    first_failed (g.W.Sink.contents c.args.sink.now) (g.W.Sink.contents c.put_place.new.sink) c.args.held.now c.put_place.new.held (place_text c.args.rank c.args.order.now.above) (place_text c.args.rank c.args.order.now.above) (other_text c.args.rank c.args.order.now.next)
    c.from_residual.result c.from_residual.ensures.0 refl c.in_err-put_place.ensures.bytes

pub returns-clause-bytes : goal.returns-clause-bytes
returns-clause-bytes g c =
    puts_after (g.W.Sink.contents c.args.sink.now) (g.W.Sink.contents c.put_place.new.sink) (g.W.Sink.contents c.put_other.new.sink) c.args.held.now c.put_place.new.held c.put_other.new.held
    (place_text c.args.rank c.args.order.now.above) (place_text c.args.rank c.args.order.now.above) (other_text c.args.rank c.args.order.now.next) (other_text c.args.rank c.args.order.now.next) c.put_other.result refl refl c.in_ok-put_place.ensures.bytes c.put_other.ensures.bytes
