use Rattle.esx_formulas.proofs.LaneFacts.{shifts_rotate}
use Rattle.esx_formulas.proofs.lanes.rotate_right.Goals as goal

pub returns : goal.returns
returns c = shifts_rotate c.args.by c.requires.0 c.requires.1 c.args.x c.fits-x.0
