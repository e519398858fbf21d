use Rattle.esx_program.proofs.OutgoingLemmas.{writes_kept}
use Rattle.esx_program.proofs.session.write_told.Goals as goal

pub returns-clause-bytes : goal.returns-clause-bytes
returns-clause-bytes g c =
    writes_kept c.flush.result (g.W.Sink.contents c.args.writer.now) (g.W.Sink.contents c.write_to.new.writer) (g.W.Sink.contents c.flush.new.self)
    (g.T.Told.text c.args.told.now) c.in_ok-write_to.ensures.bytes c.flush.ensures.bytes
