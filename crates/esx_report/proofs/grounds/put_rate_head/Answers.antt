use Rattle.esx_report.proofs.grounds.put_rate_head.Goals as goal

pub returns-clause-bytes : goal.returns-clause-bytes
returns-clause-bytes g c = rw (c.row_fields-fields.ensures, c.active_percent.ensures, c.tax_name.ensures) at c.put_parts.ensures.bytes
