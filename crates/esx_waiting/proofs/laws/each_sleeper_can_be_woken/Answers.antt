use Rattle.esx_waiting.proofs.Leads.{each_may_wake}
use Rattle.esx_waiting.proofs.laws.each_sleeper_can_be_woken.Goals as goal

pub returns : goal.returns
returns c = each_may_wake
