use Rattle.std.specs.Prelude.{is_some}
use Rattle.esx_text.specs.States.{sink_state}
use Rattle.esx_program.proofs.RunLemmas.{plays, stops, stops_unplayed, write_named}
use Rattle.esx_program.proofs.running.run_to.Goals as goal

pub returns-in-Ok-clause-ok : goal.returns-in-Ok-clause-ok
returns-in-Ok-clause-ok g c =
    let m = c.in-Ok.ensures.ok in
    let told = c.tell.ensures.told in
    plays c.args.scenario.now c.in-Ok.made.console m.0 m.1 c.in-Ok.made.endings.items m.2
    (sink_state g.E.Sink.contents g.E.Sink.waiting g.E.Sink.failures g.E.Sink.flushes c.args.errors)
    (sink_state g.E.Sink.contents g.E.Sink.waiting g.E.Sink.failures g.E.Sink.flushes c.tell.result.errors) told.0 told.1 told.2 told.3 told.4
    (sink_state g.W.Sink.contents g.W.Sink.waiting g.W.Sink.failures g.W.Sink.flushes c.args.writer)
    (sink_state g.W.Sink.contents g.W.Sink.waiting g.W.Sink.failures g.W.Sink.flushes c.tell.result.writer) c.tell.result.ended c.tell.ensures.ok

pub returns-in-Ok-clause-fault : goal.returns-in-Ok-clause-fault
returns-in-Ok-clause-fault g c =
    let m = c.in-Ok.ensures.ok in
    let told = c.tell.ensures.told in
    stops c.args.scenario.now c.in-Ok.made.console m.0 m.1 c.in-Ok.made.endings.items m.2
    (sink_state g.E.Sink.contents g.E.Sink.waiting g.E.Sink.failures g.E.Sink.flushes c.args.errors)
    (sink_state g.E.Sink.contents g.E.Sink.waiting g.E.Sink.failures g.E.Sink.flushes c.tell.result.errors) told.0 told.1 told.2 told.3 told.4
    (sink_state g.W.Sink.contents g.W.Sink.waiting g.W.Sink.failures g.W.Sink.flushes c.args.writer)
    (sink_state g.W.Sink.contents g.W.Sink.waiting g.W.Sink.failures g.W.Sink.flushes c.tell.result.writer) c.tell.result.ended c.tell.ensures.fault

pub returns-in-Ok-clause-machine : goal.returns-in-Ok-clause-machine
returns-in-Ok-clause-machine g c = write_named (is_some c.args.to) c.tell.result.ended _ c.tell.ensures.fault

pub returns-in-Err-clause-fault : goal.returns-in-Err-clause-fault
returns-in-Err-clause-fault g c = (stops_unplayed c.args.to c.in-Err.fault c.told_fault.result c.args.scenario.now _ _ c.in-Err.ensures.fault c.told_fault.ensures).0

pub returns-in-Err-clause-machine : goal.returns-in-Err-clause-machine
returns-in-Err-clause-machine g c =
    (stops_unplayed c.args.to c.in-Err.fault c.told_fault.result c.args.scenario.now
    (sink_state g.E.Sink.contents g.E.Sink.waiting g.E.Sink.failures g.E.Sink.flushes c.args.errors)
    (sink_state g.W.Sink.contents g.W.Sink.waiting g.W.Sink.failures g.W.Sink.flushes c.args.writer) c.in-Err.ensures.fault c.told_fault.ensures).1
