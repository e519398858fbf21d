use Rattle.std.proofs.Common.{◌∙◌, arith}
use Rattle.esx_reading.proofs.LaneLemmas.{few_are}
use Rattle.esx_reading.proofs.digits.number_of_few.Goals as goal

pub returns : goal.returns
returns c =
    let few = few_are c.args.count c.args.values (omega (arith, c.fits-values.0)) c.requires.some c.requires.few c.requires.digits in
    c.number_of_eight.ensures few.ds few.long few.small few.same ∙ few.is
