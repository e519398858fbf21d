use Rattle.std.proofs.Common.{◌∙◌, arith}
use Rattle.esx_machine.proofs.Loops.{item_there}
use Rattle.esx_machine.proofs.table.lines_of.Goals as goal

pub add_line-requires-clause-vm : goal.add_line-requires-clause-vm
add_line-requires-clause-vm c =
    let there = item_there c.args.vms.now c.loop-number.number c.index-vms-number.result (omega arith) c.index-vms-number.is in
    λ v h. c.requires.each c.loop-number.number v (there ∙ h)
