use Rattle.esx_report.proofs.values.put_end_values.Goals as goal

pub returns-clause-bytes : goal.returns-clause-bytes
returns-clause-bytes g c = rw c.saved.ensures at c.put_parts.ensures.bytes
