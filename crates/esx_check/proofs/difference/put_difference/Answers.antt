use Rattle.std.proofs.Common.{refl}
use Rattle.esx_check.specs.Differences.{asked_text, both_replies}
use Rattle.esx_writing.proofs.WritingLemmas.{first_failed, puts_after}
use Rattle.esx_check.proofs.difference.put_difference.Goals as goal

pub returns-in_err-put_asked-clause-bytes : goal.returns-in_err-put_asked-clause-bytes
returns-in_err-put_asked-clause-bytes g c =
    first_failed (g.W.Sink.contents c.args.sink.now) (g.W.Sink.contents c.put_asked.new.sink) c.args.held.now c.put_asked.new.held
    (asked_text c.args.difference.now.entry) (asked_text c.args.difference.now.entry) (both_replies c.args.difference.now)
    c.from_residual.result c.from_residual.ensures.0 refl c.in_err-put_asked.ensures.bytes

pub returns-clause-bytes : goal.returns-clause-bytes
returns-clause-bytes g c =
    puts_after (g.W.Sink.contents c.args.sink.now) (g.W.Sink.contents c.put_asked.new.sink) (g.W.Sink.contents c.put_both.new.sink)
    c.args.held.now c.put_asked.new.held c.put_both.new.held
    (asked_text c.args.difference.now.entry) (asked_text c.args.difference.now.entry) (both_replies c.args.difference.now) (both_replies c.args.difference.now)
    c.put_both.result refl refl c.in_ok-put_asked.ensures.bytes c.put_both.ensures.bytes
