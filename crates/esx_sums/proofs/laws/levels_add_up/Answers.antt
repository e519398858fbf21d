use Rattle.esx_sums.proofs.Lawful.{all_events_told}
use Rattle.esx_sums.proofs.laws.levels_add_up.Goals as goal

pub returns : goal.returns
returns c = all_events_told
