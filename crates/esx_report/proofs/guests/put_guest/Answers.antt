use Rattle.esx_report.proofs.guests.put_guest.Goals as goal

pub returns-clause-bytes : goal.returns-clause-bytes
returns-clause-bytes g c = rw c.guest_fields.ensures at c.put_row.ensures.bytes
