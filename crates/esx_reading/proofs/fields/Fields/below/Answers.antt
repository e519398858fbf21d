use Rattle.std.proofs.Common.{◌≡◌, ◌<◌, ◌^◌, decimal, arith}
use Rattle.std.proofs.lemmas.Fmt.{decimal_injective}
use Rattle.esx_reading.proofs.fields.Fields.below.Goals as goal

pub returns-else-number-limit-clause-none : goal.returns-else-number-limit-clause-none
returns-else-number-limit-clause-none c = λ n others small e.
    let has = c.in_ok-number.ensures.some in
    let same_text : decimal c.in_ok-number.number ≡ decimal n = cc in
    let fits : n < 2 ^ 64 = omega (arith, small, c.ranges.limit.fits) in
    let number_fits : c.in_ok-number.number < 2 ^ 64 = c.in_ok-number.ensures.small in
    let same = decimal_injective c.in_ok-number.number n number_fits fits same_text in omega (arith, same, small, c.if-number-limit.false)
