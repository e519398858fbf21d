use Rattle.std.proofs.Common.{◌≡◌, ◌<◌, ◌≤◌, ⊎_elim, ◌∙◌, sym, ap, arith, length, get_or}
use Rattle.std.proofs.lemmas.Fmt.{decimal_nonempty}
use Rattle.esx_reading.proofs.NumberLemmas.{zero_alone, read_number, read_none}
use Rattle.esx_reading.proofs.fields.number_of.Goals as goal

pub returns-in_err-first-clause-none : goal.returns-in_err-first-clause-none
returns-in_err-first-clause-none c =
    rw c.from_residual.ensures (λ n small e.
    omega (arith, decimal_nonempty n small, ap length e, ap length c.as_bytes-bytes.ensures.value, c.in_err-first.ensures.item.3))

pub returns-then-bytes-ne1-clause-none : goal.returns-then-bytes-ne1-clause-none
returns-then-bytes-ne1-clause-none c = λ n small e.
    let v = c.as_bytes-bytes.ensures.value in
    let first : c.in_ok-first.field-0.now ≡ get_or c.args.text.now 0 0 = c.in_ok-first.ensures.item.3.1 0 ∙ ap (λ t. get_or t 0 0) v in
    c.if-bytes-ne1.true (ap length v ∙ zero_alone n c.args.text.now small e (omega (arith, first, c.if-first-le48.true)))

pub returns-clause-some : goal.returns-clause-some
returns-clause-some c =
    let v = c.as_bytes-bytes.ensures.value in
    let first : c.in_ok-first.field-0.now ≡ get_or c.args.text.now 0 0 = c.in_ok-first.ensures.item.3.1 0 ∙ ap (λ t. get_or t 0 0) v in
    let one : get_or c.args.text.now 0 0 ≤ 48 → length c.args.text.now ≡ 1 = λ low.
    ⊎_elim (λ w. sym (ap length v) ∙ w.1) (λ w. absurd (omega (arith, first, w, low))) c.else-first-le48.either in
    let some : 0 < length c.args.text.now = omega (arith, ap length v, c.in_ok-first.ensures.item.3.0) in
    read_number c.args.text.now _ c.number_of_digits.result v one some c.number_of_digits.ensures.some

pub returns-clause-none : goal.returns-clause-none
returns-clause-none c = read_none c.args.text.now _ c.number_of_digits.result c.as_bytes-bytes.ensures.value c.number_of_digits.ensures.none
