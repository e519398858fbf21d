use Rattle.esx_sums.proofs.Added.{guests_add_up}
use Rattle.esx_sums.proofs.laws.guests_add_up.Goals as goal

pub returns : goal.returns
returns c = guests_add_up
