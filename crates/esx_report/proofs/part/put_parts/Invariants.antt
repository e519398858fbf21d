use Rattle.std.proofs.Common.{◌≡◌, take, flat_map}
use Rattle.esx_writing.specs.Writing.{Passes}
use Rattle.esx_report.specs.Fields.{part_text}
use Rattle.esx_report.proofs.part.put_parts.Given as goal

abbrev pub invariant-loop-part : goal.invariant-loop-part
invariant-loop-part g l = record {
  passed : Passes (g.W.Sink.contents l.initial.sink) l.initial.held (g.W.Sink.contents l.sink) l.held (flat_map part_text (take l.part-index l.parts));
  failures : g.W.Sink.failures l.sink ≡ g.W.Sink.failures l.initial.sink;
  flushes : g.W.Sink.flushes l.sink ≡ g.W.Sink.flushes l.initial.sink;
}
