use Rattle.esx_words.specs.Commands.{spelling}
use Rattle.esx_writing.proofs.WritingLemmas.{ends_writing, writes_error}
use Rattle.esx_words.proofs.printing.write_command.Goals as goal

pub returns-clause-bytes : goal.returns-clause-bytes
returns-clause-bytes g c =
    ends_writing (g.W.Sink.contents c.args.sink.now) (g.W.Sink.contents c.put_command.new.sink) (g.W.Sink.contents c.write_held.new.sink)
    c.args.held.now c.put_command.new.held (spelling c.args.call.now) c.write_held.result c.requires c.in_ok-put_command.ensures.bytes c.write_held.ensures.bytes

pub returns-in_err-put_command-clause-bytes : goal.returns-in_err-put_command-clause-bytes
returns-in_err-put_command-clause-bytes g c =
    writes_error (g.W.Sink.contents c.args.sink.now) (g.W.Sink.contents c.put_command.new.sink) c.args.held.now (spelling c.args.call.now)
    c.from_residual.result c.from_residual.ensures.0 c.requires c.in_err-put_command.ensures.bytes.0
