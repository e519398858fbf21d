use Rattle.std.proofs.Common.{◌≡◌, take}
use Rattle.std.specs.Str.{IsUtf8}
use Rattle.esx_writing.specs.Writing.{Passes}
use Rattle.esx_replies.specs.Signs.{behind}
use Rattle.esx_replies.specs.Replies.{tried_texts}
use Rattle.esx_replies.proofs.sides.put_all_tried.Given as goal

abbrev pub invariant-loop-reply : goal.invariant-loop-reply
invariant-loop-reply g l = record {
  counted : l.number ≡ l.reply-index;
  passed : Passes (g.W.Sink.contents l.initial.sink) l.initial.held (g.W.Sink.contents l.sink) l.held (behind g.S.Sign.text (tried_texts 1 (take l.reply-index l.replies)));
  utf8 : IsUtf8 (behind g.S.Sign.text (tried_texts 1 (take l.reply-index l.replies)));
  failures : g.W.Sink.failures l.sink ≡ g.W.Sink.failures l.initial.sink;
  flushes : g.W.Sink.flushes l.sink ≡ g.W.Sink.flushes l.initial.sink;
}
