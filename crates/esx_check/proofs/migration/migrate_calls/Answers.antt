use Rattle.std.proofs.Common.{◌≡◌, ◌<◌, ◌≤◌, ◌+◌, ℕ, refl, subst, take, length, get_or, arith}
use Rattle.esx_check.specs.Again.{made}
use Rattle.esx_check.specs.Gates.{PassedFor}
use Rattle.esx_check.proofs.CheckLemmas.{is_not}
use Rattle.esx_check.proofs.GateLemmas.{passed_none, passed_more, some_none, some_more}
use Rattle.esx_check.proofs.MigrateLemmas.{all_migrated, differs_at, goes_nowhere, goes_on, nothing_made, one_more_made}
use Rattle.esx_check.proofs.migration.migrate_calls.Goals as goal

pub loop-entry-init : goal.loop-entry-init
loop-entry-init g c = record {
  so_far = nothing_made _ _ _ c.in-Ok.ensures.opened;
  count = refl;
  held = c.in-Ok.ensures.empty;
  gate = passed_none _ _;
}

pub loop-entry-preserved : goal.loop-entry-preserved
loop-entry-preserved g c =
    let now = c.loop-entry.invariant in
    let e = c.entry-item.result in
    let within : c.loop-entry.count < length c.args.entries.now = omega arith in
    let at : e ≡ get_or c.args.entries.now c.loop-entry.count e = cc in
    let is = c.in-Ok-has_same_reply.ensures in
    let s = made c.args.site (take c.loop-entry.count c.args.entries.now) in
    record {
      so_far = one_more_made c.args.site c.args.entries.now c.loop-entry.count e within at _ now.so_far _ (is.made s now.so_far.calls) ((is.same s now.so_far.calls).0 c.if-not-same.false);
      count = omega arith;
      held = is.empty c.if-not-same.false;
      gate = passed_more _ _ _ _ _ now.gate is.gate;
    }

pub returns-in_default-clause-some : goal.returns-in_default-clause-some
returns-in_default-clause-some g c = λ _. some_none _ _ _ (goes_nowhere _ _)

pub returns-in_default-has_same_reply-clause-some : goal.returns-in_default-has_same_reply-clause-some
returns-in_default-has_same_reply-clause-some g c = λ _.
    let now = c.loop-entry.invariant in
    let e = c.entry-item.result in
    let within : c.loop-entry.count < length c.args.entries.now = omega arith in
    let at : e ≡ get_or c.args.entries.now c.loop-entry.count e = cc in
    some_more _ _ _ _ _ _ (goes_on c.args.site c.args.entries.now c.loop-entry.count e within at _ now.so_far) now.gate c.in_default-has_same_reply.ensures.gate

pub returns-then-not-same-clause-fault : goal.returns-then-not-same-clause-fault
returns-then-not-same-clause-fault g c =
    let now = c.loop-entry.invariant in
    let e = c.entry-item.result in
    let within : c.loop-entry.count < length c.args.entries.now = omega arith in
    let at : e ≡ get_or c.args.entries.now c.loop-entry.count e = cc in
    let s = made c.args.site (take c.loop-entry.count c.args.entries.now) in
    differs_at c.args.site c.args.entries.now c.loop-entry.count e within at _ now.so_far (is_not _ _ (c.in-Ok-has_same_reply.ensures.same s now.so_far.calls) c.if-not-same.true)

pub returns-then-not-same-clause-differs : goal.returns-then-not-same-clause-differs
returns-then-not-same-clause-differs g c = λ number is.
    let same : c.loop-entry.count + 1 ≡ number = cc in
    subst (λ (n : ℕ). PassedFor g.G.Gate.passes n c.args.gate.now c.has_same_reply.new.gate) same
    (passed_more _ _ _ _ _ c.loop-entry.invariant.gate c.in-Ok-has_same_reply.ensures.gate)

pub returns-clause-ok : goal.returns-clause-ok
returns-clause-ok g c =
    let end : length c.args.entries.now ≤ c.loop-entry.count = omega arith in
    all_migrated c.args.site c.args.entries.now c.loop-entry.count _ c.loop-entry.invariant.so_far end c.log.ensures.legal

pub returns-clause-gate : goal.returns-clause-gate
returns-clause-gate g c =
    let end : c.loop-entry.count ≡ length c.args.entries.now = omega arith in
    subst (λ (n : ℕ). PassedFor g.G.Gate.passes n c.args.gate.now c.loop-entry.gate) end c.loop-entry.invariant.gate
