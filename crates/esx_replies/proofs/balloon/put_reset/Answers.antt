use Rattle.esx_replies.proofs.balloon.put_reset.Goals as goal

pub returns-clause-bytes : goal.returns-clause-bytes
returns-clause-bytes g c = rw c.from.ensures at c.put_line.ensures.bytes
