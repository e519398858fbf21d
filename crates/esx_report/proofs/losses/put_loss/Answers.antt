use Rattle.esx_report.proofs.losses.put_loss.Goals as goal

pub returns-clause-bytes : goal.returns-clause-bytes
returns-clause-bytes g c = rw c.loss_fields.ensures at c.put_row.ensures.bytes
