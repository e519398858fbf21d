use Rattle.std.proofs.Common.{arith}
use Rattle.esx_reading.proofs.LaneLemmas.{sixteen}
use Rattle.esx_reading.proofs.digits.number_of_sixteen.Goals as goal

pub overflow_mul-result : goal.overflow_mul-result
overflow_mul-result c =
    let w = sixteen c.args.digits c.fits-digits.0 c.requires in
    let front = c.eight_digits.ensures w.a w.b w.c w.d w.small_a w.small_b w.small_c w.small_d w.front in
    record { fits = omega (arith, front, w.small_a, w.small_b, w.small_c, w.small_d) }

pub returns-clause-value : goal.returns-clause-value
returns-clause-value c =
    let w = sixteen c.args.digits c.fits-digits.0 c.requires in
    let front = c.eight_digits.ensures w.a w.b w.c w.d w.small_a w.small_b w.small_c w.small_d w.front in
    let back = c.eight_digits-2.ensures w.e w.f w.g w.h w.small_e w.small_f w.small_g w.small_h w.back in
    omega (arith, front, back, w.is)

pub overflow_add-result : goal.overflow_add-result
overflow_add-result c =
    let w = sixteen c.args.digits c.fits-digits.0 c.requires in
    let front = c.eight_digits.ensures w.a w.b w.c w.d w.small_a w.small_b w.small_c w.small_d w.front in
    let back = c.eight_digits-2.ensures w.e w.f w.g w.h w.small_e w.small_f w.small_g w.small_h w.back in
    record { fits = omega (arith, front, back, w.small_a, w.small_b, w.small_c, w.small_d, w.small_e, w.small_f, w.small_g, w.small_h) }

pub returns-clause-small : goal.returns-clause-small
returns-clause-small c =
    let w = sixteen c.args.digits c.fits-digits.0 c.requires in
    let front = c.eight_digits.ensures w.a w.b w.c w.d w.small_a w.small_b w.small_c w.small_d w.front in
    let back = c.eight_digits-2.ensures w.e w.f w.g w.h w.small_e w.small_f w.small_g w.small_h w.back in
    omega (arith, front, back, w.small_a, w.small_b, w.small_c, w.small_d, w.small_e, w.small_f, w.small_g, w.small_h)
