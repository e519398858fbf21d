use Rattle.std.proofs.Common.{refl}
use Rattle.esx_writing.proofs.WritingLemmas.{first_failed, puts_after, utf8_after}
use Rattle.esx_writing.proofs.line.Tuple2Line.put_parts.Goals as goal

pub returns-in_err-put_parts-clause-bytes : goal.returns-in_err-put_parts-clause-bytes
returns-in_err-put_parts-clause-bytes g c =
    first_failed (g.W.Sink.contents c.args.sink.now) (g.W.Sink.contents c.put_parts.new.sink) c.args.held.now c.put_parts.new.held
    (g.A.Line.text c.args.self.now.0) (g.A.Line.text c.args.self.now.0) (g.B.Line.text c.args.self.now.1)
    c.from_residual.result c.from_residual.ensures.0 refl c.in_err-put_parts.ensures.bytes

pub returns-clause-bytes : goal.returns-clause-bytes
returns-clause-bytes g c =
    puts_after (g.W.Sink.contents c.args.sink.now) (g.W.Sink.contents c.put_parts.new.sink) (g.W.Sink.contents c.put_parts-2.new.sink)
    c.args.held.now c.put_parts.new.held c.put_parts-2.new.held
    (g.A.Line.text c.args.self.now.0) (g.A.Line.text c.args.self.now.0) (g.B.Line.text c.args.self.now.1) (g.B.Line.text c.args.self.now.1)
    c.put_parts-2.result refl refl c.in_ok-put_parts.ensures.bytes c.put_parts-2.ensures.bytes

pub returns-clause-utf8 : goal.returns-clause-utf8
returns-clause-utf8 g c =
    utf8_after (g.A.Line.text c.args.self.now.0) (g.B.Line.text c.args.self.now.1) c.put_parts-2.result c.in_ok-put_parts.ensures.utf8 c.put_parts-2.ensures.utf8
