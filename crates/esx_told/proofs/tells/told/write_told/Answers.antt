use Rattle.std.proofs.Common.{map}
use Rattle.esx_session.specs.Sessions.{session_text, logged}
use Rattle.esx_writing.proofs.WritingLemmas.{ends_writing}
use Rattle.esx_told.specs.Lines.{lines_of}
use Rattle.esx_told.proofs.tells.told.write_told.Goals as goal

pub returns-clause-bytes : goal.returns-clause-bytes
returns-clause-bytes g c =
    ends_writing (g.W.Sink.contents c.args.sink.now) (g.W.Sink.contents c.put_told.new.sink) (g.W.Sink.contents c.write_held.new.sink)
    c.args.held.now c.put_told.new.held (session_text c.args.site.now (map logged (lines_of c.args.log.now))) c.write_held.result c.requires c.in_ok-put_told.ensures.bytes c.write_held.ensures.bytes
