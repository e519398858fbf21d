use Rattle.std.proofs.Common.{List, flat_map, subst}
use Rattle.esx_writing.specs.Writing.{Writes}
use Rattle.esx_text.specs.States.{sink_state}
use Rattle.esx_program.specs.declared.ends.Ending.{Ending}
use Rattle.esx_program.specs.Ends.{ending_text}
use Rattle.esx_program.proofs.RunLemmas.{session_told_ok, session_told_err}
use Rattle.esx_program.proofs.running.tell.Goals as goal

pub returns-clause-told : goal.returns-clause-told
returns-clause-told g c = (
  c.tell_endings.result,
  subst (λ (l : List Ending). Writes (g.E.Sink.contents c.args.errors) (g.E.Sink.contents c.tell_endings.new.sink) (flat_map ending_text l) c.tell_endings.result)
      c.deref.ensures.value c.tell_endings.ensures.bytes,
  c.tell_endings.ensures.failures,
  c.tell_endings.ensures.flushes,
  c.tell_endings.ensures.sent,
)

pub returns-clause-ok : goal.returns-clause-ok
returns-clause-ok g c =
    rw c.write_fault.ensures
    (session_told_ok c.args.made.console (sink_state g.W.Sink.contents g.W.Sink.waiting g.W.Sink.failures g.W.Sink.flushes c.args.writer)
    (sink_state g.W.Sink.contents g.W.Sink.waiting g.W.Sink.failures g.W.Sink.flushes c.session_buffered-printed.result.1) c.session_buffered-printed.result.0
    c.session_buffered-printed.ensures.ok c.session_buffered-printed.ensures.failures c.session_buffered-printed.ensures.flushes
    c.session_buffered-printed.ensures.sent)

pub returns-clause-fault : goal.returns-clause-fault
returns-clause-fault g c =
    rw c.write_fault.ensures
    (session_told_err c.args.made.console (sink_state g.W.Sink.contents g.W.Sink.waiting g.W.Sink.failures g.W.Sink.flushes c.args.writer)
    (sink_state g.W.Sink.contents g.W.Sink.waiting g.W.Sink.failures g.W.Sink.flushes c.session_buffered-printed.result.1) c.session_buffered-printed.result.0
    c.session_buffered-printed.ensures.fault c.session_buffered-printed.ensures.failures c.session_buffered-printed.ensures.flushes)
