use Rattle.esx_report.proofs.happened.put_happened_head.Goals as goal

pub returns-clause-bytes : goal.returns-clause-bytes
returns-clause-bytes g c = rw (c.front.ensures, c.number.ensures.value) at c.put_parts.ensures.bytes
