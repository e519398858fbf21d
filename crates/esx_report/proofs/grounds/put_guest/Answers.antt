use Rattle.std.proofs.Common.{refl}
use Rattle.esx_writing.proofs.WritingLemmas.{first_failed, puts_after}
use Rattle.esx_report.specs.Why.{rate_line, target_line}
use Rattle.esx_report.proofs.grounds.put_guest.Goals as goal

pub returns-in_err-put_target-clause-bytes : goal.returns-in_err-put_target-clause-bytes
returns-in_err-put_target-clause-bytes g c =
    first_failed (g.W.Sink.contents c.args.sink.now) (g.W.Sink.contents c.put_target.new.sink) c.args.held.now c.put_target.new.held (target_line c.args.why.now.line) (target_line c.args.why.now.line) (rate_line c.args.why.now.line)
    c.from_residual.result c.from_residual.ensures.0 refl c.in_err-put_target.ensures.bytes

pub returns-clause-bytes : goal.returns-clause-bytes
returns-clause-bytes g c =
    puts_after (g.W.Sink.contents c.args.sink.now) (g.W.Sink.contents c.put_target.new.sink) (g.W.Sink.contents c.put_rate.new.sink) c.args.held.now c.put_target.new.held c.put_rate.new.held
    (target_line c.args.why.now.line) (target_line c.args.why.now.line) (rate_line c.args.why.now.line) (rate_line c.args.why.now.line) c.put_rate.result refl refl c.in_ok-put_target.ensures.bytes c.put_rate.ensures.bytes
