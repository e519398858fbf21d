use Rattle.std.proofs.Common.{◌≡◌, length}
use Rattle.esx_program.specs.Streams.{Sends}
use Rattle.esx_program.proofs.outgoing.send.Given as goal

abbrev pub invariant-loop-sink : goal.invariant-loop-sink
invariant-loop-sink g l = record {
  bytes : Sends (g.W.Sink.contents l.initial.sink) (g.W.Sink.contents l.sink) l.initial.waiting l.waiting;
  failures : g.W.Sink.failures l.sink ≡ g.W.Sink.failures l.initial.sink;
  flushes : g.W.Sink.flushes l.sink ≡ g.W.Sink.flushes l.initial.sink;
}

abbrev pub decreases-loop-sink : goal.decreases-loop-sink
decreases-loop-sink g l = length l.waiting
