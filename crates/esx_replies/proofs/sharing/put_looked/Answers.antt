use Rattle.esx_replies.proofs.sharing.put_looked.Goals as goal

pub returns-in-Already-clause-bytes : goal.returns-in-Already-clause-bytes
returns-in-Already-clause-bytes g c = rw c.in-Already.is c.put_line-in-Already.ensures.bytes

pub returns-in-Shared-clause-bytes : goal.returns-in-Shared-clause-bytes
returns-in-Shared-clause-bytes g c = rw c.in-Shared.is c.put_found_shared.ensures.bytes
