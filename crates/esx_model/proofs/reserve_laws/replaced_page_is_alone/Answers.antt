use Rattle.esx_model.proofs.ReserveLaws.{replaced_alone}
use Rattle.esx_model.proofs.reserve_laws.replaced_page_is_alone.Goals as goal

pub returns : goal.returns
returns c = replaced_alone
