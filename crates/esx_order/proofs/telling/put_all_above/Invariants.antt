use Rattle.std.proofs.Common.{◌≡◌, take, flat_map}
use Rattle.esx_writing.specs.Writing.{Passes}
use Rattle.esx_order.specs.Telling.{above_text}
use Rattle.esx_order.proofs.telling.put_all_above.Given as goal

abbrev pub invariant-loop-above : goal.invariant-loop-above
invariant-loop-above g l = record {
  passed : Passes (g.W.Sink.contents l.initial.sink) l.initial.held (g.W.Sink.contents l.sink) l.held (flat_map above_text (take l.above-index l.order));
  failures : g.W.Sink.failures l.sink ≡ g.W.Sink.failures l.initial.sink;
  flushes : g.W.Sink.flushes l.sink ≡ g.W.Sink.flushes l.initial.sink;
}
