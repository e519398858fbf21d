use Rattle.std.proofs.Common.{◌≡◌, ◌++◌, drop}
use Rattle.esx_machine.specs.Questions.{target_rows}
use Rattle.esx_machine.proofs.rows.rows_of.Given as goal

abbrev pub invariant-loop-number : goal.invariant-loop-number
invariant-loop-number l = l.rows.items ++ target_rows l.tau l.number (drop l.number l.vms) ≡ target_rows l.tau 0 l.vms
