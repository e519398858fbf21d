use Rattle.esx_check.specs.Differences.{compared_text}
use Rattle.esx_writing.proofs.WritingLemmas.{ends_writing, writes_error}
use Rattle.esx_check.proofs.difference.write_compared.Goals as goal

pub returns-clause-bytes : goal.returns-clause-bytes
returns-clause-bytes g c =
    ends_writing (g.W.Sink.contents c.args.sink.now) (g.W.Sink.contents c.put_compared.new.sink) (g.W.Sink.contents c.write_held.new.sink)
    c.args.held.now c.put_compared.new.held (compared_text c.args.compared.now) c.write_held.result c.requires c.in_ok-put_compared.ensures.bytes c.write_held.ensures.bytes

pub returns-in_err-put_compared-clause-bytes : goal.returns-in_err-put_compared-clause-bytes
returns-in_err-put_compared-clause-bytes g c =
    writes_error (g.W.Sink.contents c.args.sink.now) (g.W.Sink.contents c.put_compared.new.sink) c.args.held.now (compared_text c.args.compared.now)
    c.from_residual.result c.from_residual.ensures.0 c.requires c.in_err-put_compared.ensures.bytes.0
