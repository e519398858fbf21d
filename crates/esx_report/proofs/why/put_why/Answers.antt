use Rattle.std.proofs.Common.{refl}
use Rattle.esx_writing.proofs.WritingLemmas.{first_failed, puts_after}
use Rattle.esx_report.specs.Why.{happened, why_rest}
use Rattle.esx_report.proofs.why.put_why.Goals as goal

pub returns-in_err-put_happened-clause-bytes : goal.returns-in_err-put_happened-clause-bytes
returns-in_err-put_happened-clause-bytes g c =
    first_failed (g.W.Sink.contents c.args.sink.now) (g.W.Sink.contents c.put_happened.new.sink) c.args.held.now c.put_happened.new.held (happened c.args.why.now) (happened c.args.why.now) (why_rest c.args.why.now)
    c.from_residual.result c.from_residual.ensures.0 refl c.in_err-put_happened.ensures.bytes

pub returns-clause-bytes : goal.returns-clause-bytes
returns-clause-bytes g c =
    puts_after (g.W.Sink.contents c.args.sink.now) (g.W.Sink.contents c.put_happened.new.sink) (g.W.Sink.contents c.put_rest.new.sink) c.args.held.now c.put_happened.new.held c.put_rest.new.held
    (happened c.args.why.now) (happened c.args.why.now) (why_rest c.args.why.now) (why_rest c.args.why.now) c.put_rest.result refl refl c.in_ok-put_happened.ensures.bytes c.put_rest.ensures.bytes
