use Rattle.esx_formulas.proofs.LaneFacts.{shift_of_lanes}
use Rattle.esx_formulas.proofs.lanes.shift_right.Goals as goal

pub returns : goal.returns
returns c = shift_of_lanes c.args.by c.args.x c.fits-x.0
