use Rattle.std.proofs.Common.{arith}
use Rattle.esx_formulas.proofs.RotationFacts.{chosen}
use Rattle.esx_formulas.proofs.rounds.ch.Goals as goal

pub returns : goal.returns
returns c = chosen c.args.x c.args.y c.args.z (omega (arith, c.ranges.x.fits)) (omega (arith, c.ranges.y.fits)) (omega (arith, c.ranges.z.fits))
