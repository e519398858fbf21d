use Rattle.esx_text.specs.States.{sink_state}
use Rattle.esx_program.proofs.MigrationLemmas.{difference_not_told, difference_told}
use Rattle.esx_program.proofs.migrating.tell_difference.Goals as goal

pub returns-clause-ok : goal.returns-clause-ok
returns-clause-ok g c = λ site entries differs.
    let e = c.write_told-written.ensures in
    rw c.ended_as.ensures
    (difference_told site entries c.args.number differs
    (sink_state g.W.Sink.contents g.W.Sink.waiting g.W.Sink.failures g.W.Sink.flushes c.args.writer)
    (sink_state g.W.Sink.contents g.W.Sink.waiting g.W.Sink.failures g.W.Sink.flushes c.write_told-written.new.writer) c.write_told-written.result
    e.bytes e.failures e.flushes e.sent)

pub returns-clause-fault : goal.returns-clause-fault
returns-clause-fault g c = λ site entries differs.
    let e = c.write_told-written.ensures in
    rw c.ended_as.ensures
    (difference_not_told site entries c.args.number differs
    (sink_state g.W.Sink.contents g.W.Sink.waiting g.W.Sink.failures g.W.Sink.flushes c.args.writer)
    (sink_state g.W.Sink.contents g.W.Sink.waiting g.W.Sink.failures g.W.Sink.flushes c.write_told-written.new.writer) c.write_told-written.result
    e.bytes e.failures e.flushes)
