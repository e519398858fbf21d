use Rattle.esx_report.proofs.row.put_row.Goals as goal

pub returns-in-Some-clause-bytes : goal.returns-in-Some-clause-bytes
returns-in-Some-clause-bytes g c = rw c.in-Some.ensures.cases.0 c.put_columns.ensures.bytes
