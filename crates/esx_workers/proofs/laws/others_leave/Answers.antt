use Rattle.esx_workers.proofs.Others.{others_leave}
use Rattle.esx_workers.proofs.laws.others_leave.Goals as goal

pub returns : goal.returns
returns c = others_leave
