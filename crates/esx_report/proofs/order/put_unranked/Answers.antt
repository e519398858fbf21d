use Rattle.esx_report.proofs.order.put_unranked.Goals as goal

pub returns-in-None-clause-bytes : goal.returns-in-None-clause-bytes
returns-in-None-clause-bytes g c = rw c.in-None.is c.put_line.ensures.bytes

pub returns-in-Some-clause-bytes : goal.returns-in-Some-clause-bytes
returns-in-Some-clause-bytes g c = rw c.in-Some.is c.put_parts.ensures.bytes
