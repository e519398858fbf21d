use Rattle.std.proofs.Common.{◌≡◌, drop}
use Rattle.std.specs.List.{fold}
use Rattle.std.specs.Option.{ForSome}
use Rattle.esx_formulas.specs.Ratio.{IsRow}
use Rattle.esx_story.specs.Order.{next_of}
use Rattle.esx_walk.specs.Ordered.{next_step}
use Rattle.esx_walk.proofs.order.next_of.Given as goal

abbrev pub invariant-loop-at : goal.invariant-loop-at
invariant-loop-at l = (fold (next_step l.vm) l.best (drop l._at l.rows) ≡ next_of l.vm l.rows) × ForSome l.best IsRow
