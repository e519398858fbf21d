use Rattle.esx_refinement.proofs.Periods.{periods_open}
use Rattle.esx_refinement.proofs.laws.periods_are_open.Goals as goal

pub returns : goal.returns
returns c = periods_open
