use Rattle.std.proofs.Common.{◌≡◌, take, flat_map}
use Rattle.esx_report.specs.Why.{why_text}
use Rattle.esx_writing.specs.Writing.{Passes}
use Rattle.esx_report.proofs.why.put_each.Given as goal

abbrev pub invariant-loop-why : goal.invariant-loop-why
invariant-loop-why g l = record {
  passed : Passes (g.W.Sink.contents l.initial.sink) l.initial.held (g.W.Sink.contents l.sink) l.held (flat_map why_text (take l.why-index l.whys));
  failures : g.W.Sink.failures l.sink ≡ g.W.Sink.failures l.initial.sink;
  flushes : g.W.Sink.flushes l.sink ≡ g.W.Sink.flushes l.initial.sink;
}
