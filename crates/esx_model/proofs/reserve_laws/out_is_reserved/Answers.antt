use Rattle.esx_model.proofs.ReserveLaws.{out_on_path}
use Rattle.esx_model.proofs.reserve_laws.out_is_reserved.Goals as goal

pub returns-clause-path : goal.returns-clause-path
returns-clause-path c = out_on_path
