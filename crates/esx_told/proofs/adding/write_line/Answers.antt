use Rattle.esx_session.specs.Printing.{line_text}
use Rattle.esx_told.proofs.WritingLemmas.{writes_held}
use Rattle.esx_told.proofs.adding.write_line.Goals as goal

pub returns-clause-bytes : goal.returns-clause-bytes
returns-clause-bytes g c =
    writes_held (g.W.Sink.contents c.args.sink.now) (g.W.Sink.contents c.put_line.new.sink) (g.W.Sink.contents c.write_held.new.sink)
    c.args.held.now c.put_line.new.held (line_text c.args.line.now) c.write_held.result c.in_ok-put_line.ensures.bytes c.write_held.ensures.bytes
