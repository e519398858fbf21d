use Rattle.esx_workers.proofs.Visits.{guest_runs, guest_goes_through}
use Rattle.esx_workers.proofs.laws.guests_run.Goals as goal

pub returns-clause-run : goal.returns-clause-run
returns-clause-run c = guest_runs

pub returns-clause-whole : goal.returns-clause-whole
returns-clause-whole c = guest_goes_through
