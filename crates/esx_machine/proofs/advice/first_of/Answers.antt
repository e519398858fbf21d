use Rattle.std.proofs.Common.{◌∙◌, arith}
use Rattle.esx_machine.proofs.Loops.{claim_first, item_there}
use Rattle.esx_machine.proofs.advice.first_of.Goals as goal

pub loop-number-init : goal.loop-number-init
loop-number-init c = (claim_first c.args.tau c.args.vms.now, λ x h. cc)

pub sooner_of-best-requires-clause-vm : goal.sooner_of-best-requires-clause-vm
sooner_of-best-requires-clause-vm c =
    let there = item_there c.args.vms.now c.loop-number.number c.index-vms-number.result (omega arith) c.index-vms-number.is in
    λ v h. c.requires.each c.loop-number.number v (there ∙ h)
