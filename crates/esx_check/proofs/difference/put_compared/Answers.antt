use Rattle.esx_check.proofs.difference.put_compared.Goals as goal

pub returns-in-Differs-clause-bytes : goal.returns-in-Differs-clause-bytes
returns-in-Differs-clause-bytes g c = rw c.in-Differs.is c.put_differs.ensures.bytes
