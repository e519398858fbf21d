use Rattle.std.proofs.Common.{◌≤◌, inl, inr, arith, get_or}
use Rattle.esx_reading.proofs.NumberLemmas.{no_digit_at, value_more, digit_more, value_at_most, all_read}
use Rattle.esx_reading.proofs.fields.number_of_digits.Goals as goal
use Rattle.esx_reading.proofs.fields.number_of_digits.Goals.{then-byte-lt48-via-then-byte-lt48, then-byte-lt48-via-else-byte-lt48+then-byte-gt57}

pub returns-then-byte-lt48-clause-none : goal.returns-then-byte-lt48-clause-none
returns-then-byte-lt48-clause-none c = λ digits small.
    no_digit_at c.args.bytes.now c.loop-byte.byte-index c.loop-byte-test.true
    (elim c.then-byte-lt48.branch [
      | then-byte-lt48-via-then-byte-lt48 w ↦ inl (omega (arith, w.if-byte-lt48))
      | then-byte-lt48-via-else-byte-lt48+then-byte-gt57 w ↦ inr (omega (arith, w.if-byte-gt57))
    ]) digits

pub returns-in_err-checked_mul-clause-none : goal.returns-in_err-checked_mul-clause-none
returns-in_err-checked_mul-clause-none c = rw c.from_residual.ensures (λ digits small.
    let most = value_at_most c.args.bytes.now c.loop-byte.byte-index c.loop-byte-test.true (omega (arith, c.if-byte-lt48.false)) (omega (arith, c.if-byte-gt57.false)) in
    omega (arith, most, small, c.loop-byte.invariant.value, c.in_err-checked_mul.ensures))

pub returns-in_err-number-clause-none : goal.returns-in_err-number-clause-none
returns-in_err-number-clause-none c = rw c.from_residual-in_err-number.ensures (λ digits small.
    let most = value_at_most c.args.bytes.now c.loop-byte.byte-index c.loop-byte-test.true (omega (arith, c.if-byte-lt48.false)) (omega (arith, c.if-byte-gt57.false)) in
    omega (arith, most, small, c.loop-byte.invariant.value, c.in_ok-checked_mul.ensures, c.from.ensures, c.in_err-number.ensures))

pub loop-byte-preserved : goal.loop-byte-preserved
loop-byte-preserved c =
    let low : 48 ≤ get_or c.args.bytes.now c.loop-byte.byte-index 0 = omega (arith, c.if-byte-lt48.false) in
    let high : get_or c.args.bytes.now c.loop-byte.byte-index 0 ≤ 57 = omega (arith, c.if-byte-gt57.false) in
    record {
      small = omega (arith, c.in_ok-number.ensures);
      digits = digit_more c.args.bytes.now c.loop-byte.byte-index c.loop-byte-test.true low high c.loop-byte.invariant.digits;
      value = omega (arith, value_more c.args.bytes.now c.loop-byte.byte-index c.loop-byte-test.true low high, c.loop-byte.invariant.value, c.in_ok-checked_mul.ensures, c.from.ensures, c.in_ok-number.ensures);
    }

pub returns-clause-some : goal.returns-clause-some
returns-clause-some c =
    all_read c.args.bytes.now c.loop-byte.byte-index c.loop-byte.number (omega (arith, c.loop-byte-test.false, c.loop-byte.auto.byte-index-end)) c.loop-byte.invariant.small c.loop-byte.invariant.digits c.loop-byte.invariant.value
