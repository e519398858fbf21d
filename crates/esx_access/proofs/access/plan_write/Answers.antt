use Rattle.std.proofs.Common.{sym}
use Rattle.esx_access.proofs.access.plan_write.Goals as goal

pub write_slot-requires : goal.write_slot-requires
write_slot-requires c = record { period = c.requires c.args.vm c.in-Some.row.now c.in-Some.ensures.value; out = sym c.in-Out.ensures }

pub write_zeros-requires : goal.write_zeros-requires
write_zeros-requires c = record { period = c.requires c.args.vm c.in-Some.row.now c.in-Some.ensures.value; fits = c.access_gate.ensures.fits c.in_default-access_gate.is }
