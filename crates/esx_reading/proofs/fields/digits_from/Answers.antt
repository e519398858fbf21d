use Rattle.std.proofs.Common.{◌≤◌, arith, get_or}
use Rattle.esx_reading.proofs.NumberLemmas.{value_more, digit_more}
use Rattle.esx_reading.proofs.fields.digits_from.Goals as goal

pub loop-i-preserved : goal.loop-i-preserved
loop-i-preserved c =
    let low : 48 ≤ get_or c.args.bytes.now c.loop-i.i 0 = omega (arith, c.if-digit-gt9.false, c.from-digit.ensures) in
    let high : get_or c.args.bytes.now c.loop-i.i 0 ≤ 57 = omega (arith, c.if-digit-gt9.false, c.from-digit.ensures, low) in
    record {
      small = omega (arith, c.if-number-ge-FULL.false, c.from-digit.ensures, high);
      digits = digit_more c.args.bytes.now c.loop-i.i c.loop-i-test.true low high c.loop-i.invariant.digits;
      value = omega (arith, value_more c.args.bytes.now c.loop-i.i c.loop-i-test.true low high, c.loop-i.invariant.value, c.from-digit.ensures, low);
    }
