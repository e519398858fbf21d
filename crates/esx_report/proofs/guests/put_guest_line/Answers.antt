use Rattle.esx_report.proofs.guests.put_guest_line.Goals as goal

pub returns-clause-bytes : goal.returns-clause-bytes
returns-clause-bytes g c = rw c.guest_cells.ensures at c.put_row.ensures.bytes
