use Rattle.std.proofs.Common.{refl}
use Rattle.esx_text.specs.States.{sink_state}
use Rattle.esx_program.proofs.DoingLemmas.{not_replayed, replayed}
use Rattle.esx_program.proofs.commands.replay_file.Goals as goal
use Rattle.esx_program.proofs.commands.replay_file.Goals.{in-Ok-ended, in-Err-ended}

pub returns-in-Err-clause-replayed : goal.returns-in-Err-clause-replayed
returns-in-Err-clause-replayed g c = let none = c.in-Err.ensures.script in (none.0, none.1, (none.3, refl))

pub returns-clause-replayed : goal.returns-clause-replayed
returns-clause-replayed g c =
    let here = c.in-Ok.ensures.script in
    let script = here.2 in
    let entries = script.2.0 in
    let e = c.replay_watched-replayed.ensures in
    let r = c.replay_watched-replayed.result.ended in
    let old = sink_state g.W.Sink.contents g.W.Sink.waiting g.W.Sink.failures g.W.Sink.flushes c.args.streams.writer in
    let new = sink_state g.W.Sink.contents g.W.Sink.waiting g.W.Sink.failures g.W.Sink.flushes c.replay_watched-replayed.result.writer in
    let told = replayed c.in-Ok.script.site entries old new r (e.ok entries script.2.2) e.failures e.flushes e.sent in
    let stops = not_replayed c.in-Ok.script.site entries old new r (e.fault entries script.2.2) e.failures e.flushes e.sent in
    elim c.match-replayed.branch [
      | in-Ok-ended w ↦ rw w.ended-is (here.0, here.1, (c.in-Ok.script.site, entries, (script.0, script.1, script.2.1), rw w.in-Ok-ended.is at told))
      | in-Err-ended w ↦ rw w.ended-is (here.0, here.1, (c.in-Ok.script.site, entries, (script.0, script.1, script.2.1), rw w.in-Err-ended.is at stops))
    ]
