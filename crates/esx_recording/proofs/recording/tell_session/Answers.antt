use Rattle.esx_text.specs.Own.{told_text}
use Rattle.esx_recording.proofs.RecordingLemmas.{writes_kept}
use Rattle.esx_recording.proofs.recording.tell_session.Goals as goal

pub returns-clause-bytes : goal.returns-clause-bytes
returns-clause-bytes g c =
    writes_kept c.flush.result (g.W.Sink.contents c.args.writer.now) (g.W.Sink.contents c.tell_session.new.sink) (g.W.Sink.contents c.flush.new.self)
    (told_text c.args.console.now) (rw (c.site.ensures, c.kept.ensures.lines) at c.in_ok-tell_session.ensures.bytes) c.flush.ensures.bytes
