use Rattle.std.proofs.Common.{ap, arith, length}
use Rattle.esx_journal.proofs.Parting.{rows_length}
use Rattle.esx_journal.proofs.rows.Rows.len.Goals as goal

pub returns : goal.returns
returns c =
    let many = rows_length c.self.inside.links.items c.self.inside.records.items c.self.invariant in
    let view = ap length c.self.view_is in
    omega arith
