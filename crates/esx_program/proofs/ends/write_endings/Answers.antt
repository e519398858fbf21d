use Rattle.std.proofs.Common.{flat_map}
use Rattle.esx_program.specs.Ends.{ending_text}
use Rattle.esx_writing.proofs.WritingLemmas.{ends_writing}
use Rattle.esx_program.proofs.ends.write_endings.Goals as goal

pub returns-clause-bytes : goal.returns-clause-bytes
returns-clause-bytes g c =
    ends_writing (g.W.Sink.contents c.args.sink.now) (g.W.Sink.contents c.put_endings.new.sink) (g.W.Sink.contents c.write_held.new.sink)
    c.args.held.now c.put_endings.new.held (flat_map ending_text c.args.endings.now) c.write_held.result c.requires c.in_ok-put_endings.ensures.bytes c.write_held.ensures.bytes
