use Rattle.std.proofs.Common.{◌≡◌, replicate, None}
use Rattle.esx_tables.proofs.machines.no_machines.Given as goal

abbrev pub invariant-loop-number : goal.invariant-loop-number
invariant-loop-number l = l.rows.items ≡ replicate l._number None
