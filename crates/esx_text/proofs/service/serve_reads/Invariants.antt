use Rattle.std.proofs.Common.{◌≡◌, ◌+◌, ◌*◌, ◌≤◌, length, ℕ, List, []}
use Rattle.std.specs.Io.KnownBytes.{Consumes}
use Rattle.esx_text.specs.Answers.{Progress}
use Rattle.esx_text.proofs.service.serve_reads.Given as goal
use Rattle.esx_reading.specs.declared.whole.TheConstants.{CHUNK}

abbrev pub invariant-loop : goal.invariant-loop
invariant-loop g l = record {
  progress : (input : List ℕ) × Consumes (g.R.Source.remaining l.initial.reader) (g.R.Source.remaining l.reader) input
      × Progress l.manner l.caller l.initial.console (g.W.Sink.contents l.initial.writer) input l.work.count l.work.line l.console (g.W.Sink.contents l.writer)
      × (l.counter ≤ length input);
  failures : g.W.Sink.failures l.writer ≡ g.W.Sink.failures l.initial.writer;
  ends : g.R.Source.empty_reads l.reader ≡ g.R.Source.empty_reads l.initial.reader;
  reads : g.R.Source.failures l.reader ≡ g.R.Source.failures l.initial.reader;
  empty : l.work.answer ≡ [];
  count : l.work.count ≤ CHUNK * l.counter;
  flushes : g.W.Sink.flushes l.writer ≡ g.W.Sink.flushes l.initial.writer + l.counter;
  calls : g.R.Source.calls l.reader ≡ g.R.Source.calls l.initial.reader + l.counter;
  asked : g.R.Source.asked l.reader ≡ g.R.Source.asked l.initial.reader + CHUNK * l.counter;
}
