use Rattle.std.proofs.Common.{◌≡◌, take, map, option_map}
use Rattle.esx_model.specs.Tables.{read_vm}
use Rattle.esx_tables.proofs.copy.copy_vms.Given as goal

abbrev pub invariant-loop-row : goal.invariant-loop-row
invariant-loop-row l = l.copy.items ≡ map (option_map read_vm) (take l.row-index l.rows)
