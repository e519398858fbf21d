use Rattle.esx_writing.proofs.WritingLemmas.{utf8_number}
use Rattle.esx_writing.proofs.buffer.put_number.Goals as goal

pub returns-then-room-ge-DIGITS-clause-utf8 : goal.returns-then-room-ge-DIGITS-clause-utf8
returns-then-room-ge-DIGITS-clause-utf8 g c = utf8_number c.args.number c.ranges.number.fits
