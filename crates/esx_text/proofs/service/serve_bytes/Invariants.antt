use Rattle.std.proofs.Common.{◌≡◌, ◌+◌, ◌≤◌, ◌++◌, [], length, ℕ, List, Option}
use Rattle.esx_model.specs.Console.{Session}
use Rattle.esx_text.specs.Lines.{HasLines, input_bytes}
use Rattle.esx_text.specs.Answers.{Progress}
use Rattle.esx_text.proofs.service.serve_bytes.Given as goal

abbrev pub invariant-loop-piece : goal.invariant-loop-piece
invariant-loop-piece g l = record {
  progress : (front : List ℕ) × (l.bytes ≡ front ++ input_bytes l.rest) × ((before : Session) (known : Option (List ℕ)) (input : List ℕ)
      → Progress l.manner l.caller before known input l.initial.work.count l.initial.work.line l.initial.console (g.W.Sink.contents l.initial.writer)
      → Progress l.manner l.caller before known (input ++ front) l.work.count l.work.line l.console (g.W.Sink.contents l.writer));
  failures : g.W.Sink.failures l.writer ≡ g.W.Sink.failures l.initial.writer;
  flushes : g.W.Sink.flushes l.writer ≡ g.W.Sink.flushes l.initial.writer;
  empty : l.work.answer ≡ [];
  ends : HasLines (input_bytes l.rest) l.ends;
  count : l.work.count + length (input_bytes l.rest) ≤ l.initial.work.count + length l.bytes;
}

abbrev pub decreases-loop-piece : goal.decreases-loop-piece
decreases-loop-piece g l = length (input_bytes l.rest)
