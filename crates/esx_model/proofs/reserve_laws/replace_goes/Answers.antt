use Rattle.esx_model.proofs.ReserveLaws.{replace_goes}
use Rattle.esx_model.proofs.reserve_laws.replace_goes.Goals as goal

pub returns : goal.returns
returns c = replace_goes
