use Rattle.std.proofs.Common.{◌≡◌, take, flat_map}
use Rattle.std.specs.List.{enumerate_from}
use Rattle.esx_report.specs.SiteTable.{refusal_value}
use Rattle.esx_writing.specs.Writing.{Passes}
use Rattle.esx_report.proofs.site_csv.put_refused_values.Given as goal

abbrev pub invariant-loop-number : goal.invariant-loop-number
invariant-loop-number g l = record {
  passed : Passes (g.W.Sink.contents l.initial.sink) l.initial.held (g.W.Sink.contents l.sink) l.held (flat_map refusal_value (take l.number (enumerate_from 0 l.refusals)));
  failures : g.W.Sink.failures l.sink ≡ g.W.Sink.failures l.initial.sink;
  flushes : g.W.Sink.flushes l.sink ≡ g.W.Sink.flushes l.initial.sink;
}
