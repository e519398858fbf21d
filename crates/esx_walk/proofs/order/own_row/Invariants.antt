use Rattle.std.proofs.Common.{◌≡◌, ◌==◌, drop}
use Rattle.std.specs.List.{find}
use Rattle.esx_formulas.specs.declared.targets.Row.{Row}
use Rattle.esx_walk.proofs.order.own_row.Given as goal

abbrev pub invariant-loop-at : goal.invariant-loop-at
invariant-loop-at l = find (λ (row : Row). row.vm == l.vm) (drop l._at l.rows) ≡ find (λ (row : Row). row.vm == l.vm) l.rows
