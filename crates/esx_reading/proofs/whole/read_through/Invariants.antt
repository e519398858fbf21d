use Rattle.std.proofs.Common.{◌≡◌, ◌+◌, ◌*◌, ◌≤◌, length}
use Rattle.std.specs.Io.KnownBytes.{Consumes}
use Rattle.esx_reading.specs.declared.whole.TheConstants.{CHUNK}
use Rattle.esx_reading.proofs.whole.read_through.Given as goal

abbrev pub invariant-loop : goal.invariant-loop
invariant-loop g l = record {
  given : Consumes (g.R.Source.remaining l.initial.source) (g.R.Source.remaining l.source) l.bytes.items;
  failures : g.R.Source.failures l.source ≡ g.R.Source.failures l.initial.source;
  calls : g.R.Source.calls l.source ≡ g.R.Source.calls l.initial.source + l.counter;
  asked : g.R.Source.asked l.source ≡ g.R.Source.asked l.initial.source + CHUNK * l.counter;
  each : l.counter ≤ length l.bytes.items;
  few : length l.bytes.items ≤ l.most;
  found : g.R.Source.empty_reads l.source ≡ g.R.Source.empty_reads l.initial.source;
}
