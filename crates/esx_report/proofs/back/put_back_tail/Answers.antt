use Rattle.std.proofs.Common.{refl}
use Rattle.esx_writing.proofs.WritingLemmas.{first_failed, puts_after}
use Rattle.esx_report.specs.Why.{back_end, waits_text}
use Rattle.esx_report.proofs.back.put_back_tail.Goals as goal

pub returns-in_err-put_waits-clause-bytes : goal.returns-in_err-put_waits-clause-bytes
returns-in_err-put_waits-clause-bytes g c =
    first_failed (g.W.Sink.contents c.args.sink.now) (g.W.Sink.contents c.put_waits.new.sink) c.args.held.now c.put_waits.new.held (waits_text c.args.loss.now.waits) (waits_text c.args.loss.now.waits) (back_end c.args.loss.now.back c.args.loss.now.came)
    c.from_residual.result c.from_residual.ensures.0 refl c.in_err-put_waits.ensures.bytes

pub returns-clause-bytes : goal.returns-clause-bytes
returns-clause-bytes g c =
    puts_after (g.W.Sink.contents c.args.sink.now) (g.W.Sink.contents c.put_waits.new.sink) (g.W.Sink.contents c.put_back_end.new.sink) c.args.held.now c.put_waits.new.held c.put_back_end.new.held
    (waits_text c.args.loss.now.waits) (waits_text c.args.loss.now.waits) (back_end c.args.loss.now.back c.args.loss.now.came) (back_end c.args.loss.now.back c.args.loss.now.came) c.put_back_end.result refl refl c.in_ok-put_waits.ensures.bytes c.put_back_end.ensures.bytes
