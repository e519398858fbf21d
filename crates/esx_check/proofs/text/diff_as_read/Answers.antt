use Rattle.std.proofs.Common.{inl, inr, sym, ◌∙◌, ap, arith, ◌+◌, ◌++◌, ◌∷◌, []}
use Rattle.std.proofs.lemmas.Result.{err_from_is_err_and}
use Rattle.esx_replies.specs.Replies.{reply_text}
use Rattle.esx_check.specs.Again.{made}
use Rattle.esx_check.specs.Wants.{WantsMemory}
use Rattle.esx_check.proofs.GateLemmas.{passed_none, passed_more, some_of, some_more, on_err}
use Rattle.esx_check.proofs.TextLemmas.{nothing_so_far, one_more_so_far, all_same, one_differs, goes_to_last, goes_to_one_more, stops_behind_last, stops_behind_difference, wants_at_call}
use Rattle.esx_check.proofs.text.diff_as_read.Goals as goal

pub loop-calls-init : goal.loop-calls-init
loop-calls-init g c = record {
  so_far = λ text site follows answers. nothing_so_far text site _ _ follows answers;
  count = sym c.requires.none.0;
  few = omega (arith, c.requires.none.1);
  held = c.requires.empty;
  gate = passed_none _ _;
}

pub loop-calls-preserved : goal.loop-calls-preserved
loop-calls-preserved g c =
    let is = c.in-Ok.ensures in
    let entry = c.in_ok-entry.ensures in
    record {
      so_far = λ text site follows answers.
          let so_far = c.loop-calls.invariant.so_far text site follows answers in
          one_more_so_far text _ _ _ _ _ c.in-Some.entry so_far (rw c.give_back.ensures (rw c.in-Some.is at (entry.some text so_far.site so_far.done so_far.follows)))
          (is.made (made so_far.site so_far.done) so_far.answers) ((rw c.in_default-other.is at is.same) (made so_far.site so_far.done) so_far.answers);
      count = rw c.give_back.ensures (ap (λ n. n + 1) c.loop-calls.invariant.count ∙ sym (rw c.in-Some.is at entry.count));
      few = omega arith;
      held = rw c.in_default-other.is at is.empty;
      gate = passed_more _ _ _ _ _ c.loop-calls.invariant.gate is.gate;
    }

pub returns-in_err-entry-clause-only : goal.returns-in_err-entry-clause-only
returns-in_err-entry-clause-only g c = λ text site follows answers.
    let so_far = c.loop-calls.invariant.so_far text site follows answers in
    let p = err_from_is_err_and c.from_residual.result c.from_residual.ensures.1 in
    rw (p.1, p.2) (c.in_err-entry.ensures.only text so_far.site so_far.done so_far.follows)

pub returns-in_err-read_on-clause-only : goal.returns-in_err-read_on-clause-only
returns-in_err-read_on-clause-only g c = λ text site follows answers.
    let so_far = c.loop-calls.invariant.so_far text site follows answers in
    let p = err_from_is_err_and c.from_residual-in_err-read_on.result c.from_residual-in_err-read_on.ensures.1 in
    let next = rw c.in-Some.is at (c.in_ok-entry.ensures.some text so_far.site so_far.done so_far.follows) in
    rw (p.1, p.2) (c.in_err-read_on.ensures.only text so_far.site (so_far.done ++ c.in-Some.entry ∷ []) next)

pub returns-in-Some-other-clause-ok : goal.returns-in-Some-other-clause-ok
returns-in-Some-other-clause-ok g c = λ text site follows answers.
    let so_far = c.loop-calls.invariant.so_far text site follows answers in
    let next = rw c.in-Some.is at (c.in_ok-entry.ensures.some text so_far.site so_far.done so_far.follows) in
    let on = c.in_ok-read_on.ensures.ok text so_far.site (so_far.done ++ c.in-Some.entry ∷ []) next in
    one_differs text _ _ _ c.in-Some.entry c.in-Some-other.reply so_far on.0 on.1
    ((rw c.in-Some-other.is at c.in-Ok.ensures.other) (made so_far.site so_far.done) so_far.answers) (rw c.in-Some-other.is at c.in-Ok.ensures.differs)

pub returns-clause-ok : goal.returns-clause-ok
returns-clause-ok g c = λ text site follows answers.
    let so_far = c.loop-calls.invariant.so_far text site follows answers in
    all_same text _ _ _ so_far (rw c.in_default.is at (c.in_ok-entry.ensures.none text so_far.site so_far.done so_far.follows))

pub returns-in_err-entry-clause-some : goal.returns-in_err-entry-clause-some
returns-in_err-entry-clause-some g c = λ text site follows answers.
    let so_far = c.loop-calls.invariant.so_far text site follows answers in
    on_err c.from_residual.result (some_of _ _ _ _ _ (goes_to_last text _ _ _ so_far) c.loop-calls.invariant.gate)

pub returns-in_default-other_reply-clause-some : goal.returns-in_default-other_reply-clause-some
returns-in_default-other_reply-clause-some g c = λ text site follows answers.
    let so_far = c.loop-calls.invariant.so_far text site follows answers in
    let next = rw c.in-Some.is at (c.in_ok-entry.ensures.some text so_far.site so_far.done so_far.follows) in
    some_more _ _ _ _ _ _ (goes_to_one_more text _ _ _ _ c.in-Some.entry so_far next) c.loop-calls.invariant.gate c.in_default-other_reply.ensures.gate

pub returns-in_err-read_on-clause-some : goal.returns-in_err-read_on-clause-some
returns-in_err-read_on-clause-some g c = λ text site follows answers.
    let so_far = c.loop-calls.invariant.so_far text site follows answers in
    let next = rw c.in-Some.is at (c.in_ok-entry.ensures.some text so_far.site so_far.done so_far.follows) in
    on_err c.from_residual-in_err-read_on.result
    (some_more _ _ _ _ _ _ (goes_to_one_more text _ _ _ _ c.in-Some.entry so_far next) c.loop-calls.invariant.gate c.in-Ok.ensures.gate)

pub returns-in-Some-other-clause-gate : goal.returns-in-Some-other-clause-gate
returns-in-Some-other-clause-gate g c = passed_more _ _ _ _ _ c.loop-calls.invariant.gate c.in-Ok.ensures.gate

pub returns-in_err-entry-clause-bad : goal.returns-in_err-entry-clause-bad
returns-in_err-entry-clause-bad g c = λ text site line follows answers is.
    let so_far = c.loop-calls.invariant.so_far text site follows answers in
    let p = err_from_is_err_and c.from_residual.result c.from_residual.ensures.1 in
    let bad = rw (p.1, p.2) at is in
    let near = c.in_err-entry.ensures.near line (cc) in
    some_of _ _ _ _ _ (inr (stops_behind_last text _ _ _ _ so_far near)) c.loop-calls.invariant.gate

pub returns-in_err-read_on-clause-bad : goal.returns-in_err-read_on-clause-bad
returns-in_err-read_on-clause-bad g c = λ text site line follows answers is.
    let so_far = c.loop-calls.invariant.so_far text site follows answers in
    let p = err_from_is_err_and c.from_residual-in_err-read_on.result c.from_residual-in_err-read_on.ensures.1 in
    let next = rw c.in-Some.is at (c.in_ok-entry.ensures.some text so_far.site so_far.done so_far.follows) in
    let on = c.in_err-read_on.ensures.err text so_far.site (so_far.done ++ c.in-Some.entry ∷ []) next in
    let bad = rw (p.1, p.2) at is in
    let near = c.in_err-read_on.ensures.near line (cc) in
    let here = (rw c.in-Some-other.is at c.in-Ok.ensures.other) (made so_far.site so_far.done) so_far.answers in
    let other = rw c.in-Some-other.is at c.in-Ok.ensures.differs in
    some_more _ _ _ _ _ _ (inr (stops_behind_difference text _ _ _ _ _ c.in-Some.entry so_far on.0 on.1 near (λ is_told. other (ap reply_text here ∙ is_told)))) c.loop-calls.invariant.gate c.in-Ok.ensures.gate

pub returns-in_err-entry-clause-wants : goal.returns-in_err-entry-clause-wants
returns-in_err-entry-clause-wants g c = λ text site follows answers is.
    let so_far = c.loop-calls.invariant.so_far text site follows answers in
    let p = err_from_is_err_and c.from_residual.result c.from_residual.ensures.1 in
    let out = rw (p.1, p.2) at is in
    let wants = c.in_err-entry.ensures.wants (cc) in
    some_of _ _ _ _ _ (inr (stops_behind_last text _ _ _ _ so_far wants)) c.loop-calls.invariant.gate

pub returns-in_default-other_reply-clause-wants : goal.returns-in_default-other_reply-clause-wants
returns-in_default-other_reply-clause-wants g c = λ text site follows answers is.
    let so_far = c.loop-calls.invariant.so_far text site follows answers in
    let next = rw c.in-Some.is at (c.in_ok-entry.ensures.some text so_far.site so_far.done so_far.follows) in
    let call = c.in_default-other_reply.ensures in
    let wanted = call.wants (made so_far.site so_far.done) so_far.answers in
    let wants : WantsMemory so_far.site so_far.done c.in-Some.entry.call = record { may = wanted.0; comes = wanted.1 } in
    some_more _ _ _ _ _ _ (inl (wants_at_call text _ _ _ _ c.in-Some.entry so_far next wants)) c.loop-calls.invariant.gate call.gate

pub returns-in_err-read_on-clause-wants : goal.returns-in_err-read_on-clause-wants
returns-in_err-read_on-clause-wants g c = λ text site follows answers is.
    let so_far = c.loop-calls.invariant.so_far text site follows answers in
    let p = err_from_is_err_and c.from_residual-in_err-read_on.result c.from_residual-in_err-read_on.ensures.1 in
    let next = rw c.in-Some.is at (c.in_ok-entry.ensures.some text so_far.site so_far.done so_far.follows) in
    let on = c.in_err-read_on.ensures.err text so_far.site (so_far.done ++ c.in-Some.entry ∷ []) next in
    let out = rw (p.1, p.2) at is in
    let wants = c.in_err-read_on.ensures.wants (cc) in
    let here = (rw c.in-Some-other.is at c.in-Ok.ensures.other) (made so_far.site so_far.done) so_far.answers in
    let other = rw c.in-Some-other.is at c.in-Ok.ensures.differs in
    some_more _ _ _ _ _ _ (inr (stops_behind_difference text _ _ _ _ _ c.in-Some.entry so_far on.0 on.1 wants (λ is_told. other (ap reply_text here ∙ is_told)))) c.loop-calls.invariant.gate c.in-Ok.ensures.gate
