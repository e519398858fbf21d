use Rattle.esx_text.specs.States.{sink_state}
use Rattle.esx_program.proofs.MigrationLemmas.{nothing_told}
use Rattle.esx_program.proofs.migrating.migrate_to.Goals as goal

pub returns-in_default-clause-fault : goal.returns-in_default-clause-fault
returns-in_default-clause-fault g c =
    let e = c.give_up.ensures in
    nothing_told c.give_up.result c.args.session.site c.args.session.entries
    (sink_state g.W.Sink.contents g.W.Sink.waiting g.W.Sink.failures g.W.Sink.flushes c.args.writer)
    (sink_state g.W.Sink.contents g.W.Sink.waiting g.W.Sink.failures g.W.Sink.flushes c.give_up.new.writer) e.bytes e.failures e.flushes e.sent

pub returns-clause-fault : goal.returns-clause-fault
returns-clause-fault g c =
    let e = c.give_up-in-Err-OutOfMemory.ensures in
    nothing_told c.give_up-in-Err-OutOfMemory.result c.args.session.site c.args.session.entries
    (sink_state g.W.Sink.contents g.W.Sink.waiting g.W.Sink.failures g.W.Sink.flushes c.args.writer)
    (sink_state g.W.Sink.contents g.W.Sink.waiting g.W.Sink.failures g.W.Sink.flushes c.give_up-in-Err-OutOfMemory.new.writer) e.bytes e.failures e.flushes e.sent
