use Rattle.std.proofs.Common.{◌≡◌, length, arith, sym, ◌∙◌}
use Rattle.std.proofs.lemmas.Bool.{eqb-true}
use Rattle.std.proofs.lemmas.Bool.Decides.{Decides-eqb, not_from_Decides}
use Rattle.esx_reading.proofs.HexField.{length_of_hex}
use Rattle.esx_reading.proofs.written.written_bytes.Goals as goal
use Rattle.esx_reading.proofs.written.written_bytes.Goals.{then-is_empty-via-then-is_empty, then-is_empty-via-else-is_empty+then-field-gt-MAX_DIGITS}

pub returns-then-is_empty-clause-only : goal.returns-then-is_empty-clause-only
returns-then-is_empty-clause-only c = λ bytes w e.
    let h = length_of_hex c.args.field.now bytes e in
    elim c.then-is_empty.branch [
      | then-is_empty-via-then-is_empty w2 ↦ let z = eqb-true (length c.args.field.now) 0 (sym w2.if-is_empty.ensures) in omega (arith, w.some)
      | then-is_empty-via-else-is_empty+then-field-gt-MAX_DIGITS w2 ↦ omega (arith, w.few)
    ]

pub returns-then-field-ne0-clause-only : goal.returns-then-field-ne0-clause-only
returns-then-field-ne0-clause-only c = λ bytes w e. omega (arith, c.if-field-ne0.true, length_of_hex c.args.field.now bytes e)

pub returns-in-Some-clause-found : goal.returns-in-Some-clause-found
returns-in-Some-clause-found c =
    let found = rw c.in-Some.is at c.in_ok-bytes.ensures.found in
    let is = sym c.as_bytes.ensures.value ∙ found.1 in
    let h = length_of_hex c.args.field.now c.in-Some.bytes.items is in
    let some : length c.args.field.now ≡ 0 → ⊥ = λ z. not_from_Decides _ (Decides-eqb (length c.args.field.now) 0) (sym c.is_empty.ensures ∙ c.if-is_empty.false) z in
    rw c.from_vec.ensures (
      record {
        some = omega (arith, h, some);
        few = omega (arith, h, c.if-field-gt-MAX_DIGITS.false);
        are_bytes = found.0;
      },
      is,
    )
