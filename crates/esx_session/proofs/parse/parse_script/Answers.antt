use Rattle.std.proofs.lemmas.Result.{err_from_is_err_and}
use Rattle.esx_session.proofs.MemoryLemmas.{goes_past, goes_past_read}
use Rattle.esx_session.proofs.ScriptLemmas.{nothing_scripted, one_more_scripted, scripted_whole}
use Rattle.esx_session.proofs.parse.parse_script.Goals as goal

pub loop-requests-init : goal.loop-requests-init
loop-requests-init c = nothing_scripted _ _ _ _ c.in_ok-site.ensures.ok c.new-requests.ensures

pub loop-requests-preserved : goal.loop-requests-preserved
loop-requests-preserved c =
    let so_far = c.loop-requests.invariant in
    let read = rw c.in-Some.is at (c.in_ok-entry.ensures.some c.args.text.now c.in_ok-site.site so_far.done so_far.follows) in
    one_more_scripted _ _ _ _ _ _ c.in-Some.entry so_far (rw c.give_back.ensures read) c.in-Ok.ensures.ok

pub returns-in_err-entry-clause-only : goal.returns-in_err-entry-clause-only
returns-in_err-entry-clause-only c =
    let p = err_from_is_err_and c.from_residual-in_err-entry.result c.from_residual-in_err-entry.ensures.1 in
    let so_far = c.loop-requests.invariant in
    rw (p.1, p.2) (c.in_err-entry.ensures.only c.args.text.now c.in_ok-site.site so_far.done so_far.follows)

pub returns-clause-ok : goal.returns-clause-ok
returns-clause-ok c =
    let so_far = c.loop-requests.invariant in
    scripted_whole _ _ _ _ so_far (rw c.in_default.is at (c.in_ok-entry.ensures.none c.args.text.now c.in_ok-site.site so_far.done so_far.follows))

pub returns-in_err-entry-clause-third : goal.returns-in_err-entry-clause-third
returns-in_err-entry-clause-third c = λ wants.
    let p = err_from_is_err_and c.from_residual-in_err-entry.result c.from_residual-in_err-entry.ensures.1 in
    let wants_entry = rw (p.1, p.2) at wants in
    let so_far = c.loop-requests.invariant in
    goes_past c.args.text.now c.in_ok-site.site so_far.done c.loop-requests.entries so_far.follows (c.in_err-entry.ensures.wants (cc))

pub returns-in_default-push-clause-third : goal.returns-in_default-push-clause-third
returns-in_default-push-clause-third c = λ wants.
    let so_far = c.loop-requests.invariant in
    let read = rw c.in-Some.is at (c.in_ok-entry.ensures.some c.args.text.now c.in_ok-site.site so_far.done so_far.follows) in
    goes_past_read c.args.text.now c.in_ok-site.site so_far.done c.in-Some.entry c.next.new.self read
