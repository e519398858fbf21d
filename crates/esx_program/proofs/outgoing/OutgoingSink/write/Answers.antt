use Rattle.std.proofs.Common.{arith, length}
use Rattle.esx_program.proofs.OutgoingLemmas.{took_all}
use Rattle.esx_program.proofs.outgoing.OutgoingSink.write.Goals as goal

pub returns-clause-failures : goal.returns-clause-failures
returns-clause-failures g c =
    omega (arith, c.in_ok-make_room.ensures.failures, took_all (length c.args.bytes.now) c.add.result (length c.make_room.new.waiting) c.in_ok-make_room.ensures.room c.add.ensures.count)
