use Rattle.std.proofs.Common.{flat_map}
use Rattle.esx_writing.specs.Writing.{piece_text}
use Rattle.esx_writing.proofs.WritingLemmas.{ends_writing}
use Rattle.esx_writing.proofs.pieces.write_pieces.Goals as goal

pub returns-clause-bytes : goal.returns-clause-bytes
returns-clause-bytes g c =
    ends_writing (g.W.Sink.contents c.args.sink.now) (g.W.Sink.contents c.put_pieces.new.sink) (g.W.Sink.contents c.write_held.new.sink)
    c.args.held.now c.put_pieces.new.held (flat_map piece_text c.args.pieces.now) c.write_held.result c.requires c.in_ok-put_pieces.ensures.bytes c.write_held.ensures.bytes
