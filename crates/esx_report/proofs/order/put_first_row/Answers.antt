use Rattle.esx_report.proofs.order.put_first_row.Goals as goal

pub returns-clause-bytes : goal.returns-clause-bytes
returns-clause-bytes g c = rw (c.number.ensures.value, c.ratio.ensures) at c.put_parts.ensures.bytes
