use Rattle.std.proofs.lemmas.Result.{err_from_is_err_and}
use Rattle.esx_session.proofs.MemoryLemmas.{goes_past, goes_past_read}
use Rattle.esx_session.proofs.parse.parse_session.Goals as goal

pub returns-in_err-entry-clause-only : goal.returns-in_err-entry-clause-only
returns-in_err-entry-clause-only c =
    let p = err_from_is_err_and c.from_residual-in_err-entry.result c.from_residual-in_err-entry.ensures.1 in
    rw (p.1, p.2) (c.in_err-entry.ensures.only c.args.text.now c.in_ok-site.site c.loop-entries.entries c.loop-entries.invariant)

pub returns-clause-ok : goal.returns-clause-ok
returns-clause-ok c = rw (c.new.ensures.site, c.new.ensures.entries)
    (rw c.in_default.is at (c.in_ok-entry.ensures.none c.args.text.now c.in_ok-site.site c.loop-entries.entries c.loop-entries.invariant))

pub returns-in_err-entry-clause-third : goal.returns-in_err-entry-clause-third
returns-in_err-entry-clause-third c = λ wants.
    let p = err_from_is_err_and c.from_residual-in_err-entry.result c.from_residual-in_err-entry.ensures.1 in
    let wants_entry = rw (p.1, p.2) at wants in
    goes_past c.args.text.now c.in_ok-site.site c.loop-entries.entries c.loop-entries.calls c.loop-entries.invariant (c.in_err-entry.ensures.wants (cc))

pub returns-in_default-push-clause-third : goal.returns-in_default-push-clause-third
returns-in_default-push-clause-third c = λ wants.
    let read = rw c.in-Some.is at (c.in_ok-entry.ensures.some c.args.text.now c.in_ok-site.site c.loop-entries.entries c.loop-entries.invariant) in
    goes_past_read c.args.text.now c.in_ok-site.site c.loop-entries.entries c.in-Some.entry c.next.new.self read
