use Rattle.std.proofs.Common.{refl}
use Rattle.esx_work.proofs.Staffs.{machine_more, machines_all}
use Rattle.esx_work.proofs.site.machines_of.Goals as goal

pub loop-guest-preserved : goal.loop-guest-preserved
loop-guest-preserved c = machine_more c.args.guests.now c.loop-guest.guest-index c.guest-item.result c.loop-guest.machines.items c.push.new.self.items _ c.loop-guest-test.true c.guest-item.is c.in_ok-push.ensures.items refl c.loop-guest.invariant

pub returns : goal.returns
returns c = machines_all c.args.guests.now c.loop-guest.guest-index c.loop-guest.machines.items c.loop-guest-test.false c.loop-guest.invariant
