use Rattle.std.proofs.Common.{◌≡◌, ◌∙◌, ap, length}
use Rattle.esx_text.specs.States.{sink_state}
use Rattle.esx_program.proofs.MigrationLemmas.{console_not_told, console_told}
use Rattle.esx_program.proofs.migrating.tell_console.Goals as goal

pub returns-clause-ok : goal.returns-clause-ok
returns-clause-ok g c = λ site entries migrates.
    let count = ap length c.log.ensures.lines in
    let e = c.session_buffered-written.ensures in
    rw c.ended_as.ensures
    (console_told site entries c.args.console migrates _ count
    (sink_state g.W.Sink.contents g.W.Sink.waiting g.W.Sink.failures g.W.Sink.flushes c.args.writer)
    (sink_state g.W.Sink.contents g.W.Sink.waiting g.W.Sink.failures g.W.Sink.flushes c.session_buffered-written.result.1) c.session_buffered-written.result.0
    e.ok e.failures e.flushes e.sent)

pub returns-clause-fault : goal.returns-clause-fault
returns-clause-fault g c = λ site entries migrates.
    let count = ap length c.log.ensures.lines in
    let e = c.session_buffered-written.ensures in
    rw c.ended_as.ensures
    (console_not_told site entries c.args.console migrates _ count
    (sink_state g.W.Sink.contents g.W.Sink.waiting g.W.Sink.failures g.W.Sink.flushes c.args.writer)
    (sink_state g.W.Sink.contents g.W.Sink.waiting g.W.Sink.failures g.W.Sink.flushes c.session_buffered-written.result.1) c.session_buffered-written.result.0
    e.fault e.failures e.flushes)
