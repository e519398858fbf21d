use Rattle.std.proofs.Common.{◌≡◌, take, flat_map}
use Rattle.std.specs.Str.{IsUtf8}
use Rattle.esx_writing.specs.Writing.{Passes}
use Rattle.esx_replies.specs.Signs.{behind}
use Rattle.esx_replies.specs.Replies.{row_text}
use Rattle.esx_replies.proofs.table.put_rows.Given as goal

abbrev pub invariant-loop-row : goal.invariant-loop-row
invariant-loop-row g l = record {
  passed : Passes (g.W.Sink.contents l.initial.sink) l.initial.held (g.W.Sink.contents l.sink) l.held (behind g.S.Sign.text (flat_map row_text (take l.row-index l.rows)));
  utf8 : IsUtf8 (behind g.S.Sign.text (flat_map row_text (take l.row-index l.rows)));
  failures : g.W.Sink.failures l.sink ≡ g.W.Sink.failures l.initial.sink;
  flushes : g.W.Sink.flushes l.sink ≡ g.W.Sink.flushes l.initial.sink;
}
