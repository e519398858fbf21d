use Rattle.esx_report.proofs.back.put_back_head.Goals as goal

pub returns-in-None-clause-bytes : goal.returns-in-None-clause-bytes
returns-in-None-clause-bytes g c = rw c.in-None.is c.put_line.ensures.bytes

pub returns-in-Some-clause-bytes : goal.returns-in-Some-clause-bytes
returns-in-Some-clause-bytes g c =
    let later = rw c.saturating_sub.ensures at c.put_parts.ensures.bytes in
    rw c.in-Some.is later
