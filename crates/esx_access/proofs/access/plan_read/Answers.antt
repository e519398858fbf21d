use Rattle.std.proofs.Common.{sym}
use Rattle.esx_access.proofs.access.plan_read.Goals as goal

pub read_slot-requires : goal.read_slot-requires
read_slot-requires c = record { period = c.requires c.args.vm c.in-Some.row.now c.in-Some.ensures.value; out = sym c.in-Out.ensures }

pub read_zeros-requires : goal.read_zeros-requires
read_zeros-requires c = c.requires c.args.vm c.in-Some.row.now c.in-Some.ensures.value
