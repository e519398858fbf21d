use Rattle.std.proofs.Common.{◌≡◌, ◌+◌, ◌≤◌, not, count_by, drop}
use Rattle.esx_formulas.specs.Ratio.{Claim, claim}
use Rattle.esx_formulas.specs.Targets.{comes_no_later}
use Rattle.esx_story.specs.Order.{above_of}
use Rattle.esx_walk.proofs.order.count_before.Given as goal

abbrev pub invariant-loop-at : goal.invariant-loop-at
invariant-loop-at l =
    (l.count + count_by (λ (a : Claim). not (comes_no_later (claim l.own l.own.pages) a)) (above_of (drop l._at l.rows))
    ≡ count_by (λ (a : Claim). not (comes_no_later (claim l.own l.own.pages) a)) (above_of l.rows)) × (l.count ≤ l._at)
