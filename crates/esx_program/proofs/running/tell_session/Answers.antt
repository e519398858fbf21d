use Rattle.esx_program.proofs.RunLemmas.{writes_session}
use Rattle.esx_program.proofs.running.tell_session.Goals as goal

pub returns-clause-bytes : goal.returns-clause-bytes
returns-clause-bytes g c =
    writes_session c.flush.result (g.W.Sink.contents c.args.writer.now) (g.W.Sink.contents c.write_session.new.sink) (g.W.Sink.contents c.flush.new.self)
    c.args.console.now.site c.site.result c.args.console.now.log c.log.result.now c.site.ensures c.log.ensures.lines c.in_ok-write_session.ensures.bytes c.flush.ensures.bytes
