use Rattle.std.proofs.Common.{◌≡◌, ◌+◌, ◌≤◌, drop, length}
use Rattle.esx_story.specs.Order.{above_of}
use Rattle.esx_walk.proofs.order.count_above.Given as goal

abbrev pub invariant-loop-at : goal.invariant-loop-at
invariant-loop-at l = (l.count + length (above_of (drop l._at l.rows)) ≡ length (above_of l.rows)) × (l.count ≤ l._at)
