use Rattle.std.proofs.Common.{◌≡◌, ◌++◌, map, take}
use Rattle.std.specs.List.{filter}
use Rattle.esx_sums.specs.Accounts.{is_over_of}
use Rattle.esx_sums.specs.Rows.{over_row}
use Rattle.esx_sums.proofs.rows.add_past.Given as goal

abbrev pub invariant-loop-at : goal.invariant-loop-at
invariant-loop-at l = l.rows.items ≡ l.initial.rows.items ++ map (over_row l.losses) (filter (is_over_of l.vm) (take l._at l.past))
