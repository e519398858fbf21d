use Rattle.std.proofs.Common.{◌≡◌, take, flat_map}
use Rattle.esx_report.specs.Steps.{step_row}
use Rattle.esx_writing.specs.Writing.{Passes}
use Rattle.esx_report.proofs.steps.put_step_rows.Given as goal

abbrev pub invariant-loop-row : goal.invariant-loop-row
invariant-loop-row g l = record {
  passed : Passes (g.W.Sink.contents l.initial.sink) l.initial.held (g.W.Sink.contents l.sink) l.held (flat_map step_row (take l.row-index l.rows));
  failures : g.W.Sink.failures l.sink ≡ g.W.Sink.failures l.initial.sink;
  flushes : g.W.Sink.flushes l.sink ≡ g.W.Sink.flushes l.initial.sink;
}
