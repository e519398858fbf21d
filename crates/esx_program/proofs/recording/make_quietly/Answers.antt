use Rattle.std.proofs.Common.{◌∙◌, ap, sym}
use Rattle.esx_console.specs.Calls.{opened_session}
use Rattle.esx_text.specs.States.{sink_state, source_state}
use Rattle.esx_program.specs.declared.behind.End.TheVariants.{Questions}
use Rattle.esx_program.proofs.RecordingLemmas.{ends_at_once, ends_behind, makes_behind}
use Rattle.esx_program.proofs.recording.make_quietly.Goals as goal

pub returns-in_default-clause-fault : goal.returns-in_default-clause-fault
returns-in_default-clause-fault g c =
    let e = c.give_up-fault.ensures in
    let unread = source_state g.R.Source.remaining g.R.Source.calls g.R.Source.failures g.R.Source.empty_reads g.R.Source.asked c.args.reader.now in
    ends_at_once c.give_up-fault.result c.args.site unread
    (sink_state g.E.Sink.contents g.E.Sink.waiting g.E.Sink.failures g.E.Sink.flushes c.args.errors)
    (sink_state g.E.Sink.contents g.E.Sink.waiting g.E.Sink.failures g.E.Sink.flushes c.into_sink.result) c.give_up-fault.new.writer.written
    (rw c.new-questions.ensures at (e.at_once 0 (opened_session c.args.site) unread.remaining unread.calls)) (rw (c.new-questions.ensures, sym c.into_sink.ensures.sink) at (e.streams unread)) (rw c.requires.before at c.into_sink.ensures.passed)

pub returns-clause-ok : goal.returns-clause-ok
returns-clause-ok g c =
    let e = c.make-made.ensures in
    let given = c.new-outgoing.ensures.sink ∙ c.questions-behind.ensures ∙ ap Questions c.new-questions.ensures in
    let none = c.new-outgoing.ensures.waiting ∙ c.in-Ok.ensures in
    let back = sym c.into_sink-2.ensures ∙ c.into_questions-questions.ensures in
    makes_behind c.make-made.result c.args.site
    (source_state g.R.Source.remaining g.R.Source.calls g.R.Source.failures g.R.Source.empty_reads g.R.Source.asked c.args.reader.now)
    (source_state g.R.Source.remaining g.R.Source.calls g.R.Source.failures g.R.Source.empty_reads g.R.Source.asked c.make-made.new.reader)
    (sink_state g.E.Sink.contents g.E.Sink.waiting g.E.Sink.failures g.E.Sink.flushes c.args.errors)
    (sink_state g.E.Sink.contents g.E.Sink.waiting g.E.Sink.failures g.E.Sink.flushes c.into_sink-3.result) c.into_questions-questions.result.written c.make-made.new.answers.waiting
    (rw (given, none, back) at e.ok) (rw (given, none, back, sym c.into_sink-3.ensures.sink) at e.ok_streams) (rw c.requires.before at c.into_sink-3.ensures.passed)

pub returns-clause-fault : goal.returns-clause-fault
returns-clause-fault g c =
    let e = c.make-made.ensures in
    let given = c.new-outgoing.ensures.sink ∙ c.questions-behind.ensures ∙ ap Questions c.new-questions.ensures in
    let none = c.new-outgoing.ensures.waiting ∙ c.in-Ok.ensures in
    let back = sym c.into_sink-2.ensures ∙ c.into_questions-questions.ensures in
    ends_behind c.make-made.result c.args.site
    (source_state g.R.Source.remaining g.R.Source.calls g.R.Source.failures g.R.Source.empty_reads g.R.Source.asked c.args.reader.now)
    (source_state g.R.Source.remaining g.R.Source.calls g.R.Source.failures g.R.Source.empty_reads g.R.Source.asked c.make-made.new.reader)
    (sink_state g.E.Sink.contents g.E.Sink.waiting g.E.Sink.failures g.E.Sink.flushes c.args.errors)
    (sink_state g.E.Sink.contents g.E.Sink.waiting g.E.Sink.failures g.E.Sink.flushes c.into_sink-3.result) c.into_questions-questions.result.written c.make-made.new.answers.waiting
    (rw (given, none, back) at e.fault) (rw (given, none, back, sym c.into_sink-3.ensures.sink) at e.fault_streams) (rw c.requires.before at c.into_sink-3.ensures.passed)
