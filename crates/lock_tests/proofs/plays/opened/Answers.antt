use Rattle.std.proofs.Common.{refl, sym, ◌∙◌}
use Rattle.lock_tests.proofs.Pairs.{two_taken}
use Rattle.lock_tests.proofs.plays.opened.Goals as goal

pub returns-clause-passes : goal.returns-clause-passes
returns-clause-passes c =
    let all = c.in_ok-lock.ensures.passes in
    let there = two_taken c.in_ok-lock.passes.items c.pop.new.self.items c.pop-2.new.self.items c.pop.result c.pop-2.result c.unwrap-first.result c.unwrap-second.result c.pop.ensures.items c.unwrap-second.ensures c.pop-2.ensures.items c.unwrap-first.ensures all.0 in
    let first = all.1 0 c.unwrap-first.result there.0 in
    let second = all.1 1 c.unwrap-second.result there.1 in
    let empty = c.new-tally.ensures.1 in (
      (first.0, (refl, first.1.1 ∙ empty, first.1.2, first.1.3), first.2, first.3),
      (second.0, (second.1.0 ∙ sym first.1.0, second.1.1 ∙ empty, second.1.2, second.1.3), second.2, second.3),
    )
