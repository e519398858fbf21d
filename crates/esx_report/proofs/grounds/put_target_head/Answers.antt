use Rattle.esx_report.proofs.grounds.put_target_head.Goals as goal

pub returns-clause-bytes : goal.returns-clause-bytes
returns-clause-bytes g c = rw c.row_fields-own.ensures at c.put_parts.ensures.bytes
