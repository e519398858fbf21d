use Rattle.std.proofs.Common.{map}
use Rattle.esx_session.specs.Sessions.{session_text, logged}
use Rattle.esx_writing.proofs.WritingLemmas.{ends_writing, writes_error}
use Rattle.esx_session.proofs.printing.write_session.Goals as goal

pub returns-clause-bytes : goal.returns-clause-bytes
returns-clause-bytes g c =
    ends_writing (g.W.Sink.contents c.args.sink.now) (g.W.Sink.contents c.put_session.new.sink) (g.W.Sink.contents c.write_held.new.sink)
    c.args.held.now c.put_session.new.held (session_text c.args.site.now (map logged c.args.log.now)) c.write_held.result c.requires c.in_ok-put_session.ensures.bytes c.write_held.ensures.bytes

pub returns-in_err-put_session-clause-bytes : goal.returns-in_err-put_session-clause-bytes
returns-in_err-put_session-clause-bytes g c =
    writes_error (g.W.Sink.contents c.args.sink.now) (g.W.Sink.contents c.put_session.new.sink) c.args.held.now (session_text c.args.site.now (map logged c.args.log.now))
    c.from_residual.result c.from_residual.ensures.0 c.requires c.in_err-put_session.ensures.bytes.0
