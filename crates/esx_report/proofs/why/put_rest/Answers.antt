use Rattle.std.proofs.Common.{refl}
use Rattle.esx_writing.proofs.WritingLemmas.{first_failed, puts_after}
use Rattle.esx_report.specs.Why.{back_line, reason}
use Rattle.esx_report.proofs.why.put_rest.Goals as goal

pub returns-in_err-put_reason-clause-bytes : goal.returns-in_err-put_reason-clause-bytes
returns-in_err-put_reason-clause-bytes g c =
    first_failed (g.W.Sink.contents c.args.sink.now) (g.W.Sink.contents c.put_reason.new.sink) c.args.held.now c.put_reason.new.held (reason c.args.why.now) (reason c.args.why.now) (back_line c.args.why.now.line.loss)
    c.from_residual.result c.from_residual.ensures.0 refl c.in_err-put_reason.ensures.bytes

pub returns-clause-bytes : goal.returns-clause-bytes
returns-clause-bytes g c =
    puts_after (g.W.Sink.contents c.args.sink.now) (g.W.Sink.contents c.put_reason.new.sink) (g.W.Sink.contents c.put_back.new.sink) c.args.held.now c.put_reason.new.held c.put_back.new.held
    (reason c.args.why.now) (reason c.args.why.now) (back_line c.args.why.now.line.loss) (back_line c.args.why.now.line.loss) c.put_back.result refl refl c.in_ok-put_reason.ensures.bytes c.put_back.ensures.bytes
