use Rattle.esx_tables.proofs.Promised.{all_slots_few}
use Rattle.esx_tables.proofs.machines.Machines.swap.Goals as goal

pub returns-clause-most : goal.returns-clause-most
returns-clause-most c = all_slots_few c.self.inside.rows c.self.inside.used c.self.inside.memory c.self.inside.swap c.self.invariant
