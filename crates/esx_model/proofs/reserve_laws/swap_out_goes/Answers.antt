use Rattle.esx_model.proofs.ReserveLaws.{swap_out_goes}
use Rattle.esx_model.proofs.reserve_laws.swap_out_goes.Goals as goal

pub returns : goal.returns
returns c = swap_out_goes
