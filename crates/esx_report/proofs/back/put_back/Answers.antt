use Rattle.std.proofs.Common.{refl}
use Rattle.esx_writing.proofs.WritingLemmas.{first_failed, puts_after}
use Rattle.esx_report.specs.Why.{back_head, back_tail}
use Rattle.esx_report.proofs.back.put_back.Goals as goal

pub returns-in_err-put_back_head-clause-bytes : goal.returns-in_err-put_back_head-clause-bytes
returns-in_err-put_back_head-clause-bytes g c =
    first_failed (g.W.Sink.contents c.args.sink.now) (g.W.Sink.contents c.put_back_head.new.sink) c.args.held.now c.put_back_head.new.held (back_head c.args.loss.now) (back_head c.args.loss.now) (back_tail c.args.loss.now)
    c.from_residual.result c.from_residual.ensures.0 refl c.in_err-put_back_head.ensures.bytes

pub returns-clause-bytes : goal.returns-clause-bytes
returns-clause-bytes g c =
    puts_after (g.W.Sink.contents c.args.sink.now) (g.W.Sink.contents c.put_back_head.new.sink) (g.W.Sink.contents c.put_back_tail.new.sink) c.args.held.now c.put_back_head.new.held c.put_back_tail.new.held
    (back_head c.args.loss.now) (back_head c.args.loss.now) (back_tail c.args.loss.now) (back_tail c.args.loss.now) c.put_back_tail.result refl refl c.in_ok-put_back_head.ensures.bytes c.put_back_tail.ensures.bytes
