use Rattle.esx_writing.proofs.WritingLemmas.{utf8_hex}
use Rattle.esx_writing.proofs.pieces.put_piece.Goals as goal

pub returns-in-Hex-clause-utf8 : goal.returns-in-Hex-clause-utf8
returns-in-Hex-clause-utf8 g c = rw c.in-Hex.is (utf8_hex c.in-Hex.bytes.now)
