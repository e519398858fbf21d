use Rattle.std.proofs.Common.{flat_map}
use Rattle.esx_program.specs.Ends.{ending_text}
use Rattle.esx_program.proofs.OutgoingLemmas.{writes_kept}
use Rattle.esx_program.proofs.running.tell_endings.Goals as goal

pub returns-clause-bytes : goal.returns-clause-bytes
returns-clause-bytes g c =
    writes_kept c.flush.result (g.W.Sink.contents c.args.sink.now) (g.W.Sink.contents c.write_endings.new.sink) (g.W.Sink.contents c.flush.new.self)
    (flat_map ending_text c.args.endings.now) c.in_ok-write_endings.ensures.bytes c.flush.ensures.bytes
