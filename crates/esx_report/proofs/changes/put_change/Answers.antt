use Rattle.esx_report.proofs.changes.put_change.Goals as goal

pub returns-clause-bytes : goal.returns-clause-bytes
returns-clause-bytes g c = rw c.change_fields.ensures at c.put_row.ensures.bytes
