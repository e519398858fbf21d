use Rattle.esx_tables.proofs.Promised.{used_shown}
use Rattle.esx_tables.proofs.machines.Machines.used.Goals as goal

pub returns : goal.returns
returns c =
    rw c.as_slice.ensures (rw (← c.self.view_is) (used_shown c.self.inside.rows c.self.inside.used c.self.inside.memory c.self.inside.swap c.self.invariant))
