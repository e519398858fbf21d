use Rattle.std.proofs.Common.{inr, ℕ, sym, ◌∙◌, subst, ◌++◌, ◌∷◌, []}
use Rattle.std.proofs.lemmas.Result.{err_from_is_err_and}
use Rattle.std.specs.Prelude.{Err}
use Rattle.std.specs.Result.{IsErrOf}
use Rattle.esx_reading.specs.declared.fault.TextFault.{TextFault}
use Rattle.esx_session.specs.Reading.{Follows}
use Rattle.esx_check.specs.Again.{made}
use Rattle.esx_check.specs.Gates.{PassedFor}
use Rattle.esx_check.proofs.CheckLemmas.{is_not}
use Rattle.esx_check.proofs.GateLemmas.{passed_none, passed_more, some_of, some_more, on_err}
use Rattle.esx_check.proofs.TextLemmas.{goes_to_last, goes_to_one_more, stops_behind_last, stops_behind_difference}
use Rattle.esx_paths.proofs.Going.{so_far, none_kept, one_more_kept, all_kept, differs_there, passed_as}
use Rattle.esx_paths.proofs.text.go_through.Goals as goal

pub loop-calls-init : goal.loop-calls-init
loop-calls-init g c = record {
  so_far = λ text site follows is. none_kept text site _ _ follows is;
  held = c.requires.empty;
  gate = (let P : ℕ → Type 0 = λ n. PassedFor g.G.Gate.passes n c.args.gate.now c.args.gate.now in subst P (sym c.requires.none) (passed_none _ _));
}

pub loop-calls-preserved : goal.loop-calls-preserved
loop-calls-preserved g c =
    let is = c.in-Ok.ensures in
    let entry = c.in_ok-entry.ensures in
    record {
      so_far = λ text site follows past.
          let kept = c.loop-calls.invariant.so_far text site follows past in
          one_more_kept text _ _ _ _ c.in-Some.entry kept (rw c.give_back.ensures (rw c.in-Some.is at (entry.some text kept.site kept.done kept.follows)))
          (is.made (made kept.site kept.done) kept.is_past) ((is.same (made kept.site kept.done) kept.is_past).0 c.if-not-same.false);
      held = is.empty c.if-not-same.false;
      gate = passed_as _ _ _ _ _ is.count (passed_more _ _ _ _ _ c.loop-calls.invariant.gate is.gate);
    }

pub returns-in_err-entry-clause-only : goal.returns-in_err-entry-clause-only
returns-in_err-entry-clause-only g c = λ text site follows past.
    let kept = c.loop-calls.invariant.so_far text site follows past in
    let p = err_from_is_err_and c.from_residual.result c.from_residual.ensures.1 in
    rw (p.1, p.2) (c.in_err-entry.ensures.only text kept.site kept.done kept.follows)

pub returns-in_err-read_on-clause-only : goal.returns-in_err-read_on-clause-only
returns-in_err-read_on-clause-only g c = λ text site follows past.
    let kept = c.loop-calls.invariant.so_far text site follows past in
    let p = err_from_is_err_and c.from_residual-in_err-read_on.result c.from_residual-in_err-read_on.ensures.1 in
    let next : Follows text kept.site (kept.done ++ c.in-Some.entry ∷ []) c.give_back.new.self =
    rw c.give_back.ensures (rw c.in-Some.is at (c.in_ok-entry.ensures.some text kept.site kept.done kept.follows)) in
    rw (p.1, p.2) (c.in_err-read_on.ensures.only text kept.site (kept.done ++ c.in-Some.entry ∷ []) next)

pub returns-then-not-same-clause-ok : goal.returns-then-not-same-clause-ok
returns-then-not-same-clause-ok g c = λ text site follows past.
    let kept = c.loop-calls.invariant.so_far text site follows past in
    let next : Follows text kept.site (kept.done ++ c.in-Some.entry ∷ []) c.give_back.new.self =
    rw c.give_back.ensures (rw c.in-Some.is at (c.in_ok-entry.ensures.some text kept.site kept.done kept.follows)) in
    let on = c.in_ok-read_on.ensures.ok text kept.site (kept.done ++ c.in-Some.entry ∷ []) next in
    differs_there text _ _ c.in-Some.entry _ kept on.0 (c.from-call.ensures ∙ c.count.ensures ∙ c.in-Ok.ensures.count) on.1
    (is_not _ _ (c.in-Ok.ensures.same (made kept.site kept.done) kept.is_past) c.if-not-same.true)

pub returns-clause-ok : goal.returns-clause-ok
returns-clause-ok g c = λ text site follows past.
    let kept = c.loop-calls.invariant.so_far text site follows past in
    all_kept text _ _ kept (rw c.in_default.is at (c.in_ok-entry.ensures.none text kept.site kept.done kept.follows))

pub returns-in_err-entry-clause-some : goal.returns-in_err-entry-clause-some
returns-in_err-entry-clause-some g c = λ text site follows past.
    let kept = c.loop-calls.invariant.so_far text site follows past in
    on_err c.from_residual.result (some_of _ _ _ _ _ (goes_to_last text _ _ _ (so_far text _ _ kept)) c.loop-calls.invariant.gate)

pub returns-in_default-has_same_reply-clause-some : goal.returns-in_default-has_same_reply-clause-some
returns-in_default-has_same_reply-clause-some g c = λ text site follows past.
    let kept = c.loop-calls.invariant.so_far text site follows past in
    let next = rw c.in-Some.is at (c.in_ok-entry.ensures.some text kept.site kept.done kept.follows) in
    some_more _ _ _ _ _ _ (goes_to_one_more text _ _ _ _ c.in-Some.entry (so_far text _ _ kept) next) c.loop-calls.invariant.gate c.in_default-has_same_reply.ensures.gate

pub returns-in_err-read_on-clause-some : goal.returns-in_err-read_on-clause-some
returns-in_err-read_on-clause-some g c = λ text site follows past.
    let kept = c.loop-calls.invariant.so_far text site follows past in
    let next : Follows text kept.site (kept.done ++ c.in-Some.entry ∷ []) c.give_back.new.self =
    rw c.give_back.ensures (rw c.in-Some.is at (c.in_ok-entry.ensures.some text kept.site kept.done kept.follows)) in
    on_err c.from_residual-in_err-read_on.result
    (some_more _ _ _ _ _ _ (goes_to_one_more text _ _ _ _ c.in-Some.entry (so_far text _ _ kept) next) c.loop-calls.invariant.gate c.in-Ok.ensures.gate)

pub returns-then-not-same-clause-gate : goal.returns-then-not-same-clause-gate
returns-then-not-same-clause-gate g c =
    passed_as _ _ _ _ _ (c.from-call.ensures ∙ c.count.ensures ∙ c.in-Ok.ensures.count) (passed_more _ _ _ _ _ c.loop-calls.invariant.gate c.in-Ok.ensures.gate)

-- the same fault, of whatever comes where there is none
told_again : {A B : Type 0} (x y : TextFault) → IsErrOf {T = A} (Err x) y → IsErrOf {T = B} (Err x) y
told_again x y same = cc

pub returns-in_err-entry-clause-bad : goal.returns-in_err-entry-clause-bad
returns-in_err-entry-clause-bad g c = λ text site line follows past is.
    let kept = c.loop-calls.invariant.so_far text site follows past in
    let p = err_from_is_err_and c.from_residual.result c.from_residual.ensures.1 in
    let bad = rw (p.1, p.2) at is in
    let near = c.in_err-entry.ensures.near line (told_again _ _ bad) in
    some_of _ _ _ _ _ (inr (stops_behind_last text _ _ _ _ (so_far text _ _ kept) near)) c.loop-calls.invariant.gate

pub returns-in_err-read_on-clause-bad : goal.returns-in_err-read_on-clause-bad
returns-in_err-read_on-clause-bad g c = λ text site line follows past is.
    let kept = c.loop-calls.invariant.so_far text site follows past in
    let p = err_from_is_err_and c.from_residual-in_err-read_on.result c.from_residual-in_err-read_on.ensures.1 in
    let next : Follows text kept.site (kept.done ++ c.in-Some.entry ∷ []) c.give_back.new.self =
    rw c.give_back.ensures (rw c.in-Some.is at (c.in_ok-entry.ensures.some text kept.site kept.done kept.follows)) in
    let on = c.in_err-read_on.ensures.err text kept.site (kept.done ++ c.in-Some.entry ∷ []) next in
    let bad = rw (p.1, p.2) at is in
    let near = c.in_err-read_on.ensures.near line (cc) in
    let other = is_not _ _ (c.in-Ok.ensures.same (made kept.site kept.done) kept.is_past) c.if-not-same.true in
    some_more _ _ _ _ _ _ (inr (stops_behind_difference text _ _ _ _ _ c.in-Some.entry (so_far text _ _ kept) on.0 on.1 near other)) c.loop-calls.invariant.gate c.in-Ok.ensures.gate
