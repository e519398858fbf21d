use Rattle.esx_report.proofs.happened.put_outcome.Goals as goal

pub returns-in-None-clause-bytes : goal.returns-in-None-clause-bytes
returns-in-None-clause-bytes g c =
    let named = rw c.mechanism_name-mechanism.ensures at c.put_parts.ensures.bytes in
    rw c.in-None.is named

pub returns-in-Some-clause-bytes : goal.returns-in-Some-clause-bytes
returns-in-Some-clause-bytes g c =
    let named = rw c.mechanism_name-mechanism.ensures at c.put_parts-in-Some.ensures.bytes in
    rw c.in-Some.is named
