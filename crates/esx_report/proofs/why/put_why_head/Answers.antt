use Rattle.esx_report.proofs.why.put_why_head.Goals as goal

pub returns-clause-bytes : goal.returns-clause-bytes
returns-clause-bytes g c = c.put_parts.ensures.bytes
