use Rattle.esx_report.proofs.grounds.put_asked.Goals as goal

pub returns-clause-bytes : goal.returns-clause-bytes
returns-clause-bytes g c = rw c.wanted_name.ensures at c.put_parts.ensures.bytes
