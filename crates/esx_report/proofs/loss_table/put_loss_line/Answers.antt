use Rattle.esx_report.proofs.loss_table.put_loss_line.Goals as goal

pub returns-clause-bytes : goal.returns-clause-bytes
returns-clause-bytes g c = rw c.loss_cells.ensures at c.put_row.ensures.bytes
