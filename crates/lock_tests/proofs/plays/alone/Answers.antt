use Rattle.std.proofs.Common.{◌≡◌, ◌<◌, ◌||◌, ◌++◌, ◌∷◌, [], List, ℕ, zero, suc, Bool, true, arith, ap, subst, ◌∙◌, ⊎_elim}
use Rattle.std.proofs.Math.Bool.{or-true}
use Rattle.esx_types.specs.declared.ids.Ids.{Ids}
use Rattle.esx_events.specs.declared.call.Line.{Line}
use Rattle.esx_types.specs.Ids.{has}
use Rattle.esx_lock.proofs.Grown.{grows_one}
use Rattle.lock_tests.specs.Tally.{line_of}
use Rattle.lock_tests.proofs.plays.alone.Goals as goal

-- with 0 and 1 in the one set or the other, all below 2 are in both together
below_two : (one other both : Ids) → has one 0 ≡ true → has other 1 ≡ true → ((k : ℕ) → has both k ≡ (has one k || has other k)) → (k : ℕ) → k < 2 → has both k ≡ true
below_two one other both a b union zero lt = union 0 ∙ ap (λ (t : Bool). t || has other 0) a
below_two one other both a b union (suc zero) lt = union 1 ∙ (ap (λ (t : Bool). has one 1 || t) b ∙ or-true (has one 1))
below_two one other both a b union (suc (suc k)) lt = absurd (omega arith)

pub give-requires-clause-grows : goal.give-requires-clause-grows
give-requires-clause-grows g c =
    let told = c.take-tally.ensures.told in
    let both = below_two c.in_ok-lock.first.view.ids c.in_ok-lock.second.view.ids c.join-both.result.view.ids c.in_ok-lock.ensures.passes.0.2 c.in_ok-lock.ensures.passes.1.2 c.join-both.ensures.ids in
    grows_one c.add-added.result c.take-tally.new.pass.view c.take-tally.result.log.items c.add-added.new.self.log.items (λ _. line_of 0 7)
    told.seen (λ _. ap (λ i. has i 0) told.same.1 ∙ both 0 (omega arith)) c.add-added.ensures.ok c.add-added.ensures.err

pub close-requires-clause-whole : goal.close-requires-clause-whole
close-requires-clause-whole g c = λ k lt.
    let both = below_two c.in_ok-lock.first.view.ids c.in_ok-lock.second.view.ids c.join-both.result.view.ids c.in_ok-lock.ensures.passes.0.2 c.in_ok-lock.ensures.passes.1.2 c.join-both.ensures.ids in
    let ids : c.give.new.pass.view.ids ≡ c.join-both.result.view.ids = c.give.ensures.told.0.1 ∙ c.take-tally.ensures.told.same.1 in
    ap (λ i. has i k) ids ∙ both k (subst (λ n. k < n) c.in_ok-lock.ensures.lock lt)

pub returns : goal.returns
returns g c =
    let passes = c.in_ok-lock.ensures.passes in
    let view = c.join-both.result.view in
    let both = below_two c.in_ok-lock.first.view.ids c.in_ok-lock.second.view.ids view.ids passes.0.2 passes.1.2 c.join-both.ensures.ids in
    let two : view.callers ≡ 2 = c.join-both.ensures.same.3 ∙ passes.0.1.3 in
    let none : view.seen ≡ [] = ⊎_elim (λ (e : view.seen ≡ c.in_ok-lock.first.view.seen). e ∙ passes.0.1.1) (λ (e : view.seen ≡ c.in_ok-lock.second.view.seen). e ∙ passes.1.1.1) c.join-both.ensures.meet.0 in
    let taken : c.take-tally.result.log.items ≡ view.seen = c.whole_pass_has_seen_all.ensures view c.take-tally.result.log.items (λ k lt. both k (subst (λ n. k < n) two lt)) c.take-tally.ensures.told.learnt.0 in
    c.close.ensures.0 ∙ (c.give.ensures.told.2 ∙ (c.in_ok-added.ensures.ok ∙ ap (λ (l : List Line). l ++ line_of 0 7 ∷ []) (taken ∙ none)))
