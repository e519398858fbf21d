use Rattle.esx_check.specs.Checks.{checked_text}
use Rattle.esx_writing.proofs.WritingLemmas.{ends_writing, writes_error}
use Rattle.esx_check.proofs.check.write_checked.Goals as goal

pub returns-clause-bytes : goal.returns-clause-bytes
returns-clause-bytes g c =
    ends_writing (g.W.Sink.contents c.args.sink.now) (g.W.Sink.contents c.put_checked.new.sink) (g.W.Sink.contents c.write_held.new.sink)
    c.args.held.now c.put_checked.new.held (checked_text c.args.checked) c.write_held.result c.requires c.in_ok-put_checked.ensures.bytes c.write_held.ensures.bytes

pub returns-in_err-put_checked-clause-bytes : goal.returns-in_err-put_checked-clause-bytes
returns-in_err-put_checked-clause-bytes g c =
    writes_error (g.W.Sink.contents c.args.sink.now) (g.W.Sink.contents c.put_checked.new.sink) c.args.held.now (checked_text c.args.checked)
    c.from_residual.result c.from_residual.ensures.0 c.requires c.in_err-put_checked.ensures.bytes.0
