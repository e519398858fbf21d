use Rattle.std.proofs.Common.{sym, ◌∙◌, arith}
use Rattle.esx_reading.proofs.Results.{on_err}
use Rattle.esx_words.proofs.ReadingLemmas.{left_of, last_event, range_more, triable_more}
use Rattle.esx_words.proofs.MemoryLemmas.{memory_behind, no_room}
use Rattle.esx_words.proofs.listed.events_of.Goals as goal

pub returns-in_default-clause-only : goal.returns-in_default-clause-only
returns-in_default-clause-only c = λ events few are e.
    let l = left_of c.loop.events.items events c.loop.rest.now c.loop.invariant.range (record { some = few.0; range = are }) (sym c.loop.invariant.read ∙ e) in
    (rw c.in_default.is at c.in-Ok.ensures.only) l.others l.listed l.same

pub returns-clause-only : goal.returns-clause-only
returns-clause-only c = λ events few are e.
    let l = left_of c.loop.events.items events c.loop.rest.now c.loop.invariant.range (record { some = few.0; range = are }) (sym c.loop.invariant.read ∙ e) in
    omega (arith, l.count, l.listed.some, few.1, c.loop.invariant.count, c.loop-test.false)

pub returns-in-None-clause-found : goal.returns-in-None-clause-found
returns-in-None-clause-found c =
    let range = rw c.in-Some.is at c.in-Ok.ensures.range in
    let last = rw c.in-None.is at (rw c.in-Some.is at c.in-Ok.ensures.found) in
    let triable = triable_more c.loop.events.items c.in-Some.event c.loop.counter c.loop.invariant.count c.loop-test.true in
    rw c.in_ok-push.ensures.items (
      triable,
      range_more c.loop.events.items c.in-Some.event c.loop.invariant.range range,
      c.loop.invariant.read ∙ last_event c.loop.events.items c.in-Some.event c.loop.rest.now last,
    )

pub returns-in-Err-clause-memory : goal.returns-in-Err-clause-memory
returns-in-Err-clause-memory c =
    memory_behind c.loop.events.items c.loop.rest.now c.args.text.now c.loop.invariant.range c.loop.invariant.read c.in-Err.ensures.memory

pub returns-in_err-push-clause-memory : goal.returns-in_err-push-clause-memory
returns-in_err-push-clause-memory c = on_err c.from_residual.result
    (no_room c.loop.events.items c.in-Some.event c.loop.rest.now c.args.text.now c.in-Some.later c.loop.invariant.range c.loop.invariant.read
    (rw c.in-Some.is at c.in-Ok.ensures.range) (rw c.in-Some.is at c.in-Ok.ensures.found))
