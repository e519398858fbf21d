use Rattle.esx_report.proofs.site.put_free.Goals as goal

pub returns-clause-bytes : goal.returns-clause-bytes
returns-clause-bytes g c = c.put_parts.ensures.bytes
