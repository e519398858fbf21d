use Rattle.std.proofs.Common.{◌≡◌, take, flat_map}
use Rattle.esx_report.specs.Guests.{guest_line}
use Rattle.esx_writing.specs.Writing.{Passes}
use Rattle.esx_report.proofs.tables.put_guest_lines.Given as goal

abbrev pub invariant-loop-guest : goal.invariant-loop-guest
invariant-loop-guest g l = record {
  passed : Passes (g.W.Sink.contents l.initial.sink) l.initial.held (g.W.Sink.contents l.sink) l.held (flat_map guest_line (take l.guest-index l.guests));
  failures : g.W.Sink.failures l.sink ≡ g.W.Sink.failures l.initial.sink;
  flushes : g.W.Sink.flushes l.sink ≡ g.W.Sink.flushes l.initial.sink;
}
