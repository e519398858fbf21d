use Rattle.std.proofs.Common.{ℕ, bit_xor, ap, arith}
use Rattle.std.specs.Int.{w32, rotate_right}
use Rattle.esx_formulas.proofs.RotationFacts.{shared_rotation}
use Rattle.esx_formulas.proofs.rounds.big_sigma0.Goals as goal

pub returns : goal.returns
returns c =
    rw (c.rotate_right-2.ensures, c.rotate_right.ensures, c.rotate_right-3.ensures) (ap (λ (n : ℕ). bit_xor n (rotate_right w32 c.args.x 22)) (shared_rotation c.args.x 2 11 (omega (arith, c.ranges.x.fits)) (omega arith) (omega arith) (omega arith)))
