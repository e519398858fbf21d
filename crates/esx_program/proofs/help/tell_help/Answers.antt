use Rattle.esx_program.specs.Help.{help_text}
use Rattle.esx_program.proofs.OutgoingLemmas.{writes_kept}
use Rattle.esx_program.proofs.help.tell_help.Goals as goal

pub returns-clause-bytes : goal.returns-clause-bytes
returns-clause-bytes g c =
    writes_kept c.flush.result (g.W.Sink.contents c.args.writer.now) (g.W.Sink.contents c.put_all.new.sink) (g.W.Sink.contents c.flush.new.self)
    help_text (rw c.as_bytes.ensures.value at c.in_ok-put_all.ensures.bytes) c.flush.ensures.bytes
