use Rattle.std.proofs.Common.{◌≡◌, ◌≤◌, [], List, length, map}
use Rattle.esx_types.specs.declared.config.Config.{Config}
use Rattle.esx_console.specs.Calls.{opened_session}
use Rattle.esx_console.specs.Unlogged.{AnswersAs}
use Rattle.esx_session.specs.declared.session.Entry.{Entry}
use Rattle.esx_session.specs.Sessions.{request}
use Rattle.esx_check.proofs.ReplayLemmas.{Replayed}
use Rattle.esx_check.proofs.replay.write_replies.Given as goal

abbrev pub invariant-loop-request : goal.invariant-loop-request
invariant-loop-request g l = record {
  can_next : (goal.iterator-loop-request g).can_next l.request-iterator;
  is_finite : (goal.iterator-loop-request g).is_finite l.request-iterator;
  few : l.again.console.jumps ≤ length l.yielded;
  held : l.again.held ≡ [];
  so_far : (site : Config) (entries : List Entry) → AnswersAs l.initial.again.console (opened_session site) → l.fn.requests.items ≡ map request entries
      → Replayed site entries l.request-iterator.rest.items l.again.console (g.W.Sink.contents l.initial.writer) (g.W.Sink.contents l.writer);
  failures : g.W.Sink.failures l.writer ≡ g.W.Sink.failures l.initial.writer;
  flushes : g.W.Sink.flushes l.writer ≡ g.W.Sink.flushes l.initial.writer;
}
