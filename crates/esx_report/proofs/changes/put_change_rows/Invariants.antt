use Rattle.std.proofs.Common.{◌≡◌, take, flat_map}
use Rattle.esx_report.specs.Changes.{change_row}
use Rattle.esx_writing.specs.Writing.{Passes}
use Rattle.esx_report.proofs.changes.put_change_rows.Given as goal

abbrev pub invariant-loop-line : goal.invariant-loop-line
invariant-loop-line g l = record {
  passed : Passes (g.W.Sink.contents l.initial.sink) l.initial.held (g.W.Sink.contents l.sink) l.held (flat_map change_row (take l.line-index l.lines));
  failures : g.W.Sink.failures l.sink ≡ g.W.Sink.failures l.initial.sink;
  flushes : g.W.Sink.flushes l.sink ≡ g.W.Sink.flushes l.initial.sink;
}
