use Rattle.esx_tables.proofs.Promised.{none_kept}
use Rattle.esx_tables.proofs.machines.Machines.none.Goals as goal

pub invariant_of-result : goal.invariant_of-result
invariant_of-result c = rw c.in_ok-no_machines.ensures none_kept
