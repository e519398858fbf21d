use Rattle.std.proofs.Common.{◌≡◌, ◌++◌, List, ℕ, length}
use Rattle.hex.specs.Hex.{encode_lower}
use Rattle.esx_writing.specs.Writing.{Passes}
use Rattle.esx_writing.proofs.pieces.put_hex.Given as goal

abbrev pub invariant-loop-rest : goal.invariant-loop-rest
invariant-loop-rest g l = record {
  passed : (front : List ℕ) × (l.bytes ≡ front ++ l.rest) × Passes (g.W.Sink.contents l.initial.sink) l.initial.held (g.W.Sink.contents l.sink) l.held (encode_lower front);
  failures : g.W.Sink.failures l.sink ≡ g.W.Sink.failures l.initial.sink;
  flushes : g.W.Sink.flushes l.sink ≡ g.W.Sink.flushes l.initial.sink;
}

abbrev pub decreases-loop-rest : goal.decreases-loop-rest
decreases-loop-rest g l = length l.rest
