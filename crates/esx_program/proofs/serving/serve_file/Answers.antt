use Rattle.std.proofs.Common.{refl, sym, ◌∙◌}
use Rattle.esx_text.specs.States.{sink_state, source_state}
use Rattle.esx_program.specs.Site.{at_opening}
use Rattle.esx_program.proofs.OutgoingLemmas.{served_at_once, served_through}
use Rattle.esx_program.proofs.serving.serve_file.Goals as goal
use Rattle.esx_program.proofs.serving.serve_file.Goals.{in-Ok-served, in-Err-served}

pub returns-in-Err-clause-served : goal.returns-in-Err-clause-served
returns-in-Err-clause-served g c = let none = c.in-Err.ensures.site in (none.0, none.1, (none.3, refl, refl))

pub returns-in_default-clause-served : goal.returns-in_default-clause-served
returns-in_default-clause-served g c =
    let here = c.in-Ok.ensures.site in
    let e = c.give_up.ensures in
    let served = served_at_once c.args.manner c.give_up.result c.in-Ok.site
    (source_state g.I.Source.remaining g.I.Source.calls g.I.Source.failures g.I.Source.empty_reads g.I.Source.asked c.args.streams.reader)
    (sink_state g.W.Sink.contents g.W.Sink.waiting g.W.Sink.failures g.W.Sink.flushes c.args.streams.writer)
    (sink_state g.W.Sink.contents g.W.Sink.waiting g.W.Sink.failures g.W.Sink.flushes c.give_up.new.writer)
    (e.at_once_in c.args.manner 0 (at_opening c.in-Ok.site) _ _) (e.streams _) in
    (here.0, here.1, (c.in-Ok.site, here.2, served))

pub returns-clause-served : goal.returns-clause-served
returns-clause-served g c =
    let here = c.in-Ok.ensures.site in
    let site = c.in-Ok.site in
    let r = c.serve_site_in_manner-served.result in
    let e = c.serve_site_in_manner-served.ensures in
    let out = c.serve_site_in_manner-served.new.writer in
    let given = c.new-outgoing.ensures.sink ∙ c.writer-behind.ensures in
    let back = sym c.into_sink.ensures ∙ c.into_writer.ensures in
    let served = served_through c.args.manner r site
    (source_state g.I.Source.remaining g.I.Source.calls g.I.Source.failures g.I.Source.empty_reads g.I.Source.asked c.args.streams.reader)
    (source_state g.I.Source.remaining g.I.Source.calls g.I.Source.failures g.I.Source.empty_reads g.I.Source.asked c.serve_site_in_manner-served.new.reader.reader)
    (sink_state g.W.Sink.contents g.W.Sink.waiting g.W.Sink.failures g.W.Sink.flushes c.args.streams.writer)
    (sink_state g.W.Sink.contents g.W.Sink.waiting g.W.Sink.failures g.W.Sink.flushes c.into_writer.result) c.new-outgoing.result.waiting out.waiting
    (c.new-outgoing.ensures.waiting ∙ c.in-Ok-new.ensures) (rw (given, back, c.new-reader.ensures.reader) at e.ok) (rw (given, back, c.new-reader.ensures.reader) at e.fault)
    (rw (given, back, c.new-reader.ensures.reader) at e.streams) in
    rw c.into_reader.ensures
    (elim c.match-served.branch [
      | in-Ok-served w ↦ rw w.ended-is (here.0, here.1, (site, here.2, w.in-Ok-served.field-0, rw w.in-Ok-served.is at served))
      | in-Err-served w ↦ rw w.ended-is (here.0, here.1, (site, here.2, rw w.in-Err-served.is at served))
    ])
