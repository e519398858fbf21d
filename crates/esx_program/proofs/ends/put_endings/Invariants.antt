use Rattle.std.proofs.Common.{◌≡◌, take, flat_map}
use Rattle.esx_writing.specs.Writing.{Passes}
use Rattle.esx_program.specs.Ends.{ending_text}
use Rattle.esx_program.proofs.ends.put_endings.Given as goal

abbrev pub invariant-loop-ending : goal.invariant-loop-ending
invariant-loop-ending g l = record {
  passed : Passes (g.W.Sink.contents l.initial.sink) l.initial.held (g.W.Sink.contents l.sink) l.held (flat_map ending_text (take l.ending-index l.endings));
  failures : g.W.Sink.failures l.sink ≡ g.W.Sink.failures l.initial.sink;
  flushes : g.W.Sink.flushes l.sink ≡ g.W.Sink.flushes l.initial.sink;
}
