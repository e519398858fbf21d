use Rattle.esx_report.proofs.steps.put_step.Goals as goal

pub returns-clause-bytes : goal.returns-clause-bytes
returns-clause-bytes g c = rw c.step_fields.ensures at c.put_row.ensures.bytes
