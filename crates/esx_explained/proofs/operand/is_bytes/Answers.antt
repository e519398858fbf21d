use Rattle.std.proofs.Common.{◌∙◌, ap, arith, length}
use Rattle.std.specs.List.{list_all}
use Rattle.esx_explained.specs.Operands.{is_lower_digit}
use Rattle.esx_explained.proofs.ValueLemmas.{hex_length, written_test, is_zero, is_more}
use Rattle.esx_explained.proofs.operand.is_bytes.Goals as goal

pub returns-then-is_empty : goal.returns-then-is_empty
returns-then-is_empty c = (
  λ t. absurd cc,
  λ h.
      let (bytes, are, e) = h in
      let l = hex_length c.args.word.now bytes e in
      let z = is_zero (length c.args.word.now) c.is_empty.result c.is_empty.ensures c.if-is_empty.true in
      absurd (omega (arith, are.some)),
)

pub returns-then-word-gt-MAX_DIGITS : goal.returns-then-word-gt-MAX_DIGITS
returns-then-word-gt-MAX_DIGITS c = (
  λ t. absurd cc,
  λ h.
      let (bytes, are, e) = h in
      let l = hex_length c.args.word.now bytes e in
      let long = c.if-word-gt-MAX_DIGITS.true in
      absurd (omega (arith, are.few)),
)

pub returns-then-word-ne0 : goal.returns-then-word-ne0
returns-then-word-ne0 c = (
  λ t. absurd cc,
  λ h.
      let (bytes, are, e) = h in
      let l = hex_length c.args.word.now bytes e in
      let odd = c.if-word-ne0.true in
      absurd (omega arith),
)

pub returns : goal.returns
returns c =
    let some = is_more (length c.args.word.now) c.is_empty.result c.is_empty.ensures c.if-is_empty.false in
    let few = c.if-word-gt-MAX_DIGITS.false in
    let even = c.if-word-ne0.false in
    written_test c.args.word.now c.has_digits.result (c.has_digits.ensures ∙ ap (list_all is_lower_digit) c.as_bytes.ensures.value) some (omega arith) (omega arith)
