use Rattle.std.proofs.Common.{◌∙◌}
use Rattle.esx_program.specs.Runs.{told_session}
use Rattle.esx_program.proofs.RunLemmas.{session_comes_out, front_comes_out}
use Rattle.esx_program.proofs.running.session_buffered.Goals as goal

pub returns-clause-ok : goal.returns-clause-ok
returns-clause-ok g c =
    let out = c.tell_session-told.new.writer in
    rw c.into_sink.ensures
    (session_comes_out c.tell_session-told.result (g.W.Sink.contents c.args.writer) (g.W.Sink.contents out.sink)
    c.new-outgoing.result.waiting (g.W.Sink.waiting out.sink) out.waiting (told_session c.args.console.now) (c.new-outgoing.ensures.waiting ∙ c.requires.empty.1)
    c.tell_session-told.ensures.sent (rw c.new-outgoing.ensures.sink at c.tell_session-told.ensures.bytes))

pub returns-clause-fault : goal.returns-clause-fault
returns-clause-fault g c =
    let out = c.tell_session-told.new.writer in
    rw c.into_sink.ensures
    (front_comes_out c.tell_session-told.result (g.W.Sink.contents c.args.writer) (g.W.Sink.contents out.sink)
    c.new-outgoing.result.waiting out.waiting (told_session c.args.console.now) (c.new-outgoing.ensures.waiting ∙ c.requires.empty.1)
    (rw c.new-outgoing.ensures.sink at c.tell_session-told.ensures.bytes))
