use Rattle.std.proofs.Common.{arith}
use Rattle.esx_types.specs.declared.ids.TheConstants.{WORDS}
use Rattle.esx_types.proofs.Bits.{below}
use Rattle.esx_types.proofs.ids.Ids.all.Goals as goal

pub returns : goal.returns
returns c =
    let inv = c.loop-i.invariant in
    below c.loop-i.words WORDS c.args.count inv.long (omega (arith, c.requires)) (λ j lt. inv.done j (omega (arith, c.loop-i-test.false)))
