use Rattle.std.proofs.Common.{refl}
use Rattle.esx_writing.proofs.WritingLemmas.{first_failed, puts_after}
use Rattle.esx_report.specs.Why.{since_text, target_head}
use Rattle.esx_report.proofs.grounds.put_target.Goals as goal

pub returns-in_err-put_target_head-clause-bytes : goal.returns-in_err-put_target_head-clause-bytes
returns-in_err-put_target_head-clause-bytes g c =
    first_failed (g.W.Sink.contents c.args.sink.now) (g.W.Sink.contents c.put_target_head.new.sink) c.args.held.now c.put_target_head.new.held (target_head c.args.line.now.loss.seen.order.own) (target_head c.args.line.now.loss.seen.order.own) (since_text c.args.line.now.loss.set c.args.line.now.loss.asked)
    c.from_residual.result c.from_residual.ensures.0 refl c.in_err-put_target_head.ensures.bytes

pub returns-clause-bytes : goal.returns-clause-bytes
returns-clause-bytes g c =
    puts_after (g.W.Sink.contents c.args.sink.now) (g.W.Sink.contents c.put_target_head.new.sink) (g.W.Sink.contents c.put_since.new.sink) c.args.held.now c.put_target_head.new.held c.put_since.new.held
    (target_head c.args.line.now.loss.seen.order.own) (target_head c.args.line.now.loss.seen.order.own) (since_text c.args.line.now.loss.set c.args.line.now.loss.asked) (since_text c.args.line.now.loss.set c.args.line.now.loss.asked) c.put_since.result refl refl c.in_ok-put_target_head.ensures.bytes c.put_since.ensures.bytes
