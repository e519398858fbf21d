use Rattle.std.proofs.Common.{◌≡◌, take, true}
use Rattle.esx_replies.specs.Signs.{behind}
use Rattle.esx_writing.specs.Writing.{Passes}
use Rattle.esx_check.proofs.DifferenceLemmas.{fresh_behind}
use Rattle.esx_check.proofs.difference.put_behind.Given as goal

abbrev pub invariant-loop-byte : goal.invariant-loop-byte
invariant-loop-byte g l = record {
  passed : Passes (g.W.Sink.contents l.initial.sink) l.initial.held (g.W.Sink.contents l.sink) l.held (behind g.S.Sign.text (take l.byte-index l.text));
  fresh : l.fresh ≡ fresh_behind true (take l.byte-index l.text);
  failures : g.W.Sink.failures l.sink ≡ g.W.Sink.failures l.initial.sink;
  flushes : g.W.Sink.flushes l.sink ≡ g.W.Sink.flushes l.initial.sink;
}
