use Rattle.esx_reports.proofs.asking.table_asked.Goals as goal

pub returns-clause-good : goal.returns-clause-good
returns-clause-good c = (let whole = c.requires in (c.in_ok-account.ensures whole.0 whole.1 whole.2).good)
