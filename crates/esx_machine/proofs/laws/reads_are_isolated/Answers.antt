use Rattle.esx_machine.proofs.Applied.{machines_read_alike}
use Rattle.esx_machine.proofs.laws.reads_are_isolated.Goals as goal

pub returns : goal.returns
returns c = machines_read_alike c.reads_are_isolated.ensures
