use Rattle.std.proofs.Common.{◌≡◌, ◌++◌, drop}
use Rattle.esx_model.specs.Readings.{table_from}
use Rattle.esx_machine.proofs.table.lines_of.Given as goal

abbrev pub invariant-loop-number : goal.invariant-loop-number
invariant-loop-number l = l.rows.items ++ table_from l.number (drop l.number l.vms) ≡ table_from 0 l.vms
