use Rattle.std.proofs.Common.{refl}
use Rattle.esx_check.specs.declared.check.Checked.TheVariants.{Differs}
use Rattle.esx_check.specs.Checks.{checked_text}
use Rattle.esx_check.specs.Differences.{difference_text}
use Rattle.esx_writing.proofs.WritingLemmas.{first_failed, puts_after}
use Rattle.esx_check.proofs.difference.put_differs.Goals as goal

pub returns-in_err-put_checked-clause-bytes : goal.returns-in_err-put_checked-clause-bytes
returns-in_err-put_checked-clause-bytes g c =
    first_failed (g.W.Sink.contents c.args.sink.now) (g.W.Sink.contents c.put_checked.new.sink) c.args.held.now c.put_checked.new.held
    (checked_text (Differs c.args.difference.now.number)) (checked_text (Differs c.args.difference.now.number)) (difference_text c.args.difference.now)
    c.from_residual.result c.from_residual.ensures.0 refl c.in_err-put_checked.ensures.bytes

pub returns-clause-bytes : goal.returns-clause-bytes
returns-clause-bytes g c =
    puts_after (g.W.Sink.contents c.args.sink.now) (g.W.Sink.contents c.put_checked.new.sink) (g.W.Sink.contents c.put_difference.new.sink)
    c.args.held.now c.put_checked.new.held c.put_difference.new.held
    (checked_text (Differs c.args.difference.now.number)) (checked_text (Differs c.args.difference.now.number)) (difference_text c.args.difference.now) (difference_text c.args.difference.now)
    c.put_difference.result refl refl c.in_ok-put_checked.ensures.bytes c.put_difference.ensures.bytes
