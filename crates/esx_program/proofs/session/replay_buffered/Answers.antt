use Rattle.std.proofs.Common.{◌∙◌}
use Rattle.esx_program.proofs.OutgoingLemmas.{second_none}
use Rattle.esx_program.proofs.SessionLemmas.{faults_of, no_replay, stop_comes_out, text_comes_out}
use Rattle.esx_program.proofs.session.replay_buffered.Goals as goal

pub returns-in_default-clause-fault : goal.returns-in_default-clause-fault
returns-in_default-clause-fault g c = λ entries are. no_replay c.give_up-fault.result c.args.script.site entries _ _ c.give_up-fault.ensures.bytes

pub returns-in_default-clause-failures : goal.returns-in_default-clause-failures
returns-in_default-clause-failures g c = rw (faults_of c.give_up-fault.result) c.give_up-fault.ensures.failures

pub returns-in_default-clause-flushes : goal.returns-in_default-clause-flushes
returns-in_default-clause-flushes g c = rw (faults_of c.give_up-fault.result) c.give_up-fault.ensures.flushes

pub returns-clause-ok : goal.returns-clause-ok
returns-clause-ok g c = λ entries are.
    let out = c.replay_calls-replayed.new.writer in
    rw c.into_sink.ensures
    (text_comes_out c.replay_calls-replayed.result (g.W.Sink.contents c.args.writer) (g.W.Sink.contents out.sink)
    c.new-outgoing.result.waiting out.waiting _ (c.new-outgoing.ensures.waiting ∙ c.in-Ok.ensures.waiting)
    (λ h. second_none (g.W.Sink.waiting out.sink) out.waiting (c.replay_calls-replayed.ensures.sent h))
    (rw c.new-outgoing.ensures.sink at (c.replay_calls-replayed.ensures.ok c.args.script.site entries c.in-Ok.ensures.answers are)))

pub returns-clause-fault : goal.returns-clause-fault
returns-clause-fault g c = λ entries are.
    let out = c.replay_calls-replayed.new.writer in
    rw c.into_sink.ensures
    (stop_comes_out c.replay_calls-replayed.result c.args.script.site entries (g.W.Sink.contents c.args.writer) (g.W.Sink.contents out.sink)
    c.new-outgoing.result.waiting out.waiting (c.new-outgoing.ensures.waiting ∙ c.in-Ok.ensures.waiting)
    (λ h. second_none (g.W.Sink.waiting out.sink) out.waiting (c.replay_calls-replayed.ensures.sent h))
    (rw c.new-outgoing.ensures.sink at (c.replay_calls-replayed.ensures.fault c.args.script.site entries c.in-Ok.ensures.answers are)))
