use Rattle.esx_report.proofs.site.put_saved.Goals as goal

pub returns-clause-bytes : goal.returns-clause-bytes
returns-clause-bytes g c = rw (c.mean_saved.ensures, c.saved.ensures) at c.put_parts.ensures.bytes
