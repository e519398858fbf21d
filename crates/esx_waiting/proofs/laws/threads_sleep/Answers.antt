use Rattle.esx_waiting.proofs.Leads.{one_sleeps}
use Rattle.esx_waiting.proofs.laws.threads_sleep.Goals as goal

pub returns : goal.returns
returns c = one_sleeps
