use Rattle.esx_replies.proofs.sharing.put_found_shared.Goals as goal

pub returns-clause-bytes : goal.returns-clause-bytes
returns-clause-bytes g c = rw (c.from.ensures, c.from-2.ensures) at c.put_line.ensures.bytes
