use Rattle.std.proofs.lemmas.List.{nil_from_length}
use Rattle.std.proofs.Common.{inl, inr, ◌≡◌, ◌∷◌, [], ◌++◌, sym, ◌∙◌, ap, refl, rules, append-nil, append_assoc, ◌+◌, arith}
use Rattle.esx_check.specs.Again.{made}
use Rattle.esx_check.specs.Wants.{NextWantsMemory}
use Rattle.esx_check.proofs.AgainLemmas.{first_again, again_more, again_nothing}
use Rattle.esx_check.proofs.GateLemmas.{passed_none, passed_more, some_none, some_more, on_err}
use Rattle.esx_check.proofs.CheckLemmas.{same_more, differs_here, is_not, one_longer, goes_to_next}
use Rattle.esx_check.proofs.check.check_calls.Goals as goal

pub loop-entry-init : goal.loop-entry-init
loop-entry-init g c = record {
  can_next = tt;
  is_finite = tt;
  console = first_again _ _ c.in_ok-again.ensures.answers;
  same = again_nothing _;
  count = refl;
  few = omega (arith, c.in_ok-again.ensures.none);
  held = c.in_ok-again.ensures.empty;
  gate = passed_none _ _;
  split = search rules;
}

pub loop-entry-preserved : goal.loop-entry-preserved
loop-entry-preserved g c =
    let so_far = c.loop-entry.invariant in
    let done = c.loop-entry.yielded in
    let e = c.in-Some.entry in
    let step : c.loop-entry.entry-iterator.rest.items ≡ e ∷ c.next.new.self.rest.items = c.in-Some.ensures.steps.0 in
    let is = c.in_ok-has_same_reply.ensures in
    record {
      can_next = tt;
      is_finite = tt;
      console = again_more _ done e _ (is.made (made _ done) so_far.console);
      same = same_more _ done e so_far.same ((is.same (made _ done) so_far.console).0 c.if-not-branch.false);
      count = ap (λ n. n + 1) so_far.count ∙ one_longer done e;
      few = omega arith;
      held = is.empty c.if-not-branch.false;
      gate = passed_more _ _ _ _ _ so_far.gate is.gate;
      split = so_far.split ∙ ap (λ v. done ++ v) step ∙ sym (append_assoc done (e ∷ []) c.next.new.self.rest.items);
    }

pub returns-then-not-branch-clause-ok : goal.returns-then-not-branch-clause-ok
returns-then-not-branch-clause-ok g c =
    let so_far = c.loop-entry.invariant in
    let done = c.loop-entry.yielded in
    let e = c.in-Some.entry in
    let step : c.loop-entry.entry-iterator.rest.items ≡ e ∷ c.next.new.self.rest.items = c.in-Some.ensures.steps.0 in
    let is = c.in_ok-has_same_reply.ensures in
    differs_here _ c.args.entries.items done c.next.new.self.rest.items e c.loop-entry.count (so_far.split ∙ ap (λ v. done ++ v) step) so_far.same
    (is_not _ _ (is.same (made _ done) so_far.console) c.if-not-branch.true) so_far.count

pub returns-in_err-again-clause-some : goal.returns-in_err-again-clause-some
returns-in_err-again-clause-some g c = on_err c.from_residual.result (some_none _ _ _ (inl refl))

pub returns-in_err-has_same_reply-clause-some : goal.returns-in_err-has_same_reply-clause-some
returns-in_err-has_same_reply-clause-some g c =
    let so_far = c.loop-entry.invariant in
    let done = c.loop-entry.yielded in
    let e = c.in-Some.entry in
    let step : c.loop-entry.entry-iterator.rest.items ≡ e ∷ c.next.new.self.rest.items = c.in-Some.ensures.steps.0 in
    let goes = goes_to_next _ c.args.entries.items done c.next.new.self.rest.items e c.loop-entry.count (so_far.split ∙ ap (λ v. done ++ v) step) so_far.same so_far.count in
    let split = so_far.split ∙ ap (λ v. done ++ v) step in
    let wanted = c.in_err-has_same_reply.ensures.wants (made _ done) so_far.console in
    let wants : NextWantsMemory c.args.site c.args.entries.items c.loop-entry.count = record {
      done = done;
      later = e ∷ c.next.new.self.rest.items;
      split = split;
      number = so_far.count;
      wants = record { may = wanted.0; comes = wanted.1 };
    } in
    on_err c.from_residual-in_err-has_same_reply.result (some_more _ _ _ _ _ _ (inr (goes, (c.loop-entry.count, refl, wants))) so_far.gate c.in_err-has_same_reply.ensures.gate)

pub returns-then-not-branch-clause-gate : goal.returns-then-not-branch-clause-gate
returns-then-not-branch-clause-gate g c = passed_more _ _ _ _ _ c.loop-entry.invariant.gate c.in_ok-has_same_reply.ensures.gate

pub returns-clause-ok : goal.returns-clause-ok
returns-clause-ok g c =
    let so_far = c.loop-entry.invariant in
    let done = c.loop-entry.yielded in
    let none : c.loop-entry.entry-iterator.rest.items ≡ [] = nil_from_length _ (sym c.loop-entry.entry-iterator.rest.ok.0 ∙ c.in-None.ensures.steps.0) in
    let all : c.args.entries.items ≡ done = so_far.split ∙ ap (λ v. done ++ v) none ∙ append-nil done in
    rw all (so_far.count, so_far.same)
