use Rattle.esx_report.proofs.values.put_extreme_values.Goals as goal

pub returns-clause-bytes : goal.returns-clause-bytes
returns-clause-bytes g c = rw c.mean_saved.ensures at c.put_parts.ensures.bytes
