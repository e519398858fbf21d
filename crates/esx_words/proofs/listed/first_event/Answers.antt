use Rattle.std.proofs.Common.{inr}
use Rattle.esx_words.proofs.MemoryLemmas.{begins_with}
use Rattle.esx_reading.proofs.Results.{on_err}
use Rattle.esx_words.proofs.listed.first_event.Goals as goal

pub returns-in_err-event-clause-memory : goal.returns-in_err-event-clause-memory
returns-in_err-event-clause-memory c = on_err c.from_residual.result (record {
  part = c.in-Some.front.now;
  begins = begins_with c.args.text.now c.in-Some.front.now c.in-Some.later c.in-Some.ensures.plain c.in-Some.ensures.found;
  first = inr c.in_err-event.ensures.memory;
})
