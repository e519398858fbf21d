use Rattle.std.proofs.Common.{◌≡◌, take, flat_map}
use Rattle.std.specs.Str.{IsUtf8}
use Rattle.esx_writing.specs.Writing.{Passes}
use Rattle.esx_session.specs.Printing.{line_text}
use Rattle.esx_session.proofs.printing.put_log.Given as goal

abbrev pub invariant-loop-line : goal.invariant-loop-line
invariant-loop-line g l = record {
  passed : Passes (g.W.Sink.contents l.initial.sink) l.initial.held (g.W.Sink.contents l.sink) l.held (flat_map line_text (take l.line-index l.log));
  utf8 : IsUtf8 (flat_map line_text (take l.line-index l.log));
  failures : g.W.Sink.failures l.sink ≡ g.W.Sink.failures l.initial.sink;
  flushes : g.W.Sink.flushes l.sink ≡ g.W.Sink.flushes l.initial.sink;
}
