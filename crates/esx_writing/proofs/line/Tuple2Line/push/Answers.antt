use Rattle.std.proofs.lemmas.Str.{IsUtf8-append}
use Rattle.esx_writing.proofs.line.Tuple2Line.push.Goals as goal

pub returns-clause-utf8 : goal.returns-clause-utf8
returns-clause-utf8 g c = IsUtf8-append (g.A.Line.text c.args.self.now.0) (g.B.Line.text c.args.self.now.1) c.push.ensures.utf8 c.push-2.ensures.utf8
