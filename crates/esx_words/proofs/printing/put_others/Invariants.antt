use Rattle.std.proofs.Common.{◌≡◌, take, flat_map}
use Rattle.std.specs.Str.{IsUtf8}
use Rattle.esx_writing.specs.Writing.{Passes}
use Rattle.esx_words.specs.Printing.{next_text}
use Rattle.esx_words.proofs.printing.put_others.Given as goal

abbrev pub invariant-loop-event : goal.invariant-loop-event
invariant-loop-event g l = record {
  passed : Passes (g.W.Sink.contents l.initial.sink) l.initial.held (g.W.Sink.contents l.sink) l.held (flat_map next_text (take l.event-index l.events));
  utf8 : IsUtf8 (flat_map next_text (take l.event-index l.events));
  failures : g.W.Sink.failures l.sink ≡ g.W.Sink.failures l.initial.sink;
  flushes : g.W.Sink.flushes l.sink ≡ g.W.Sink.flushes l.initial.sink;
}
