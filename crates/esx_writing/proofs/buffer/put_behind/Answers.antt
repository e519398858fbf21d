use Rattle.esx_writing.proofs.WritingLemmas.{front_of_more, puts_error, puts_all}
use Rattle.esx_writing.proofs.buffer.put_behind.Goals as goal

pub returns-in_err-write_held-clause-bytes : goal.returns-in_err-write_held-clause-bytes
returns-in_err-write_held-clause-bytes g c =
    puts_error (g.W.Sink.contents c.args.sink.now) (g.W.Sink.contents c.write_held.new.sink) c.args.held.now c.write_held.new.held c.args.bytes.now
    c.from_residual.result c.from_residual.ensures.0 (front_of_more _ _ c.args.held.now c.args.bytes.now c.in_err-write_held.ensures.bytes, c.write_held.ensures.empty)

pub returns-clause-bytes : goal.returns-clause-bytes
returns-clause-bytes g c =
    puts_all (g.W.Sink.contents c.args.sink.now) (g.W.Sink.contents c.write_held.new.sink) (g.W.Sink.contents c.put_all.new.sink)
    c.args.held.now c.write_held.new.held c.args.bytes.now c.put_all.result c.in_ok-write_held.ensures.bytes c.write_held.ensures.empty c.put_all.ensures.bytes
