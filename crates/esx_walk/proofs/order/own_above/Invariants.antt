use Rattle.std.proofs.Common.{◌≡◌, ◌==◌, drop}
use Rattle.std.specs.List.{find}
use Rattle.esx_formulas.specs.Ratio.{Claim}
use Rattle.esx_story.specs.Order.{above_of}
use Rattle.esx_walk.proofs.order.own_above.Given as goal

abbrev pub invariant-loop-at : goal.invariant-loop-at
invariant-loop-at l = find (λ (a : Claim). a.vm == l.vm) (above_of (drop l._at l.rows)) ≡ find (λ (a : Claim). a.vm == l.vm) (above_of l.rows)
