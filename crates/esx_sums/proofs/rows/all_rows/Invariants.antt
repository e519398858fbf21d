use Rattle.std.proofs.Common.{◌≡◌}
use Rattle.esx_sums.specs.Rows.{of_each, machine_rows}
use Rattle.esx_sums.proofs.rows.all_rows.Given as goal

abbrev pub invariant-loop-number : goal.invariant-loop-number
invariant-loop-number l = l.rows.items ≡ of_each (machine_rows l.now l.past l.present l.losses) l.number
