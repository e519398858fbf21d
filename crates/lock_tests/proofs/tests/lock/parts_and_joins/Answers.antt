use Rattle.std.proofs.Common.{◌∙◌, ◌||◌, ap, Bool}
use Rattle.std.proofs.Math.Bool.{or-true}
use Rattle.esx_types.specs.Ids.{has}
use Rattle.lock_tests.proofs.tests.lock.parts_and_joins.Goals as goal

pub whole_and_part-whole-requires-clause-ids : goal.whole_and_part-whole-requires-clause-ids
whole_and_part-whole-requires-clause-ids g c =
    let first = c.in_ok-lock.first.view.ids in
    let second = c.in_ok-lock.second.view.ids in
    let both = c.in_ok-lock.ensures.passes in
    (c.join.ensures.ids 0 ∙ ap (λ (b : Bool). b || has second 0) both.0.2, c.join.ensures.ids 1 ∙ (ap (λ (b : Bool). has first 1 || b) both.1.2 ∙ or-true (has first 1)))
