use Rattle.std.proofs.Common.{◌++◌}
use Rattle.std.proofs.lemmas.Result.{err_from_is_err_and}
use Rattle.esx_check.proofs.GateLemmas.{on_err}
use Rattle.esx_check.proofs.TextLemmas.{read_nothing, read_more}
use Rattle.esx_paths.proofs.text.read_on.Goals as goal

pub loop-later-init : goal.loop-later-init
loop-later-init c = λ text site done follows. read_nothing text site done _ follows

pub loop-later-preserved : goal.loop-later-preserved
loop-later-preserved c = λ text site done follows.
    let on = c.loop-later.invariant text site done follows in
    read_more text site done _ _ c.in-Some.later on (rw c.give_back.ensures (rw c.in-Some.is at (c.in_ok-later.ensures.some text site (done ++ on.later) on.follows)))

pub returns-in_err-later-clause-only : goal.returns-in_err-later-clause-only
returns-in_err-later-clause-only c = λ text site done follows.
    let on = c.loop-later.invariant text site done follows in
    let p = err_from_is_err_and c.from_residual.result c.from_residual.ensures.1 in
    rw (p.1, p.2) (c.in_err-later.ensures.only text site (done ++ on.later) on.follows)

pub returns-clause-ok : goal.returns-clause-ok
returns-clause-ok c = λ text site done follows.
    let on = c.loop-later.invariant text site done follows in
    (on.later, rw c.in_default.is at (c.in_ok-later.ensures.none text site (done ++ on.later) on.follows))

pub returns-in_err-later-clause-err : goal.returns-in_err-later-clause-err
returns-in_err-later-clause-err c = λ text site done follows.
    let on = c.loop-later.invariant text site done follows in
    on_err c.from_residual.result (on.later, rw c.in_err-later.ensures.refused on.follows)

pub returns-in_err-later-clause-near : goal.returns-in_err-later-clause-near
returns-in_err-later-clause-near c = λ line is.
    let p = err_from_is_err_and c.from_residual.result c.from_residual.ensures.1 in
    let bad = rw (p.1, p.2) at is in
    rw c.in_err-later.ensures.refused (c.in_err-later.ensures.near line (cc))
