use Rattle.std.proofs.Common.{◌≡◌, length, arith, sym, ◌∙◌}
use Rattle.std.proofs.lemmas.Bool.{eqb-true}
use Rattle.std.proofs.lemmas.Bool.Decides.{Decides-eqb, not_from_Decides}
use Rattle.esx_reading.proofs.HexField.{few_written, length_of_hex}
use Rattle.esx_reading.proofs.written.small_written_bytes.Goals as goal
use Rattle.esx_reading.proofs.written.small_written_bytes.Goals.{then-is_empty-via-then-is_empty, then-is_empty-via-else-is_empty+then-field-ne0}

pub returns-then-is_empty-clause-only : goal.returns-then-is_empty-clause-only
returns-then-is_empty-clause-only c = λ bytes w e.
    let h = length_of_hex c.args.field.now bytes e in
    elim c.then-is_empty.branch [
      | then-is_empty-via-then-is_empty w2 ↦ let z = eqb-true (length c.args.field.now) 0 (sym w2.if-is_empty.ensures) in omega (arith, w.some)
      | then-is_empty-via-else-is_empty+then-field-ne0 w2 ↦ omega (arith, w2.if-field-ne0.true, h)
    ]

pub returns-clause-found : goal.returns-clause-found
returns-clause-found c =
    let some : length c.args.field.now ≡ 0 → ⊥ = λ z. not_from_Decides _ (Decides-eqb (length c.args.field.now) 0) (sym c.is_empty.ensures ∙ c.if-is_empty.false) z in
    few_written c.args.field.now c.as_bytes.result.now c.few_bytes_of.result c.as_bytes.ensures.value some (omega (arith, c.if-field.false)) c.few_bytes_of.ensures.found
