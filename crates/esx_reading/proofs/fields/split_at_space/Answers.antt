use Rattle.std.proofs.Common.{◌≡◌, ◌<◌, arith, length, get_or, ap, sym, ◌∙◌}
use Rattle.std.proofs.lemmas.Str.{IsCharBoundary-after_ascii}
use Rattle.esx_reading.proofs.fields.split_at_space.Goals as goal

pub split_at-requires-2 : goal.split_at-requires-2
split_at-requires-2 c =
    let value = c.as_bytes.ensures.value in
    let within : c.first_space-at.result < length c.args.text.now = omega (arith, c.first_space-at.ensures.within, ap length value, c.if-at-text.false) in
    let byte : get_or c.args.text.now c.first_space-at.result 0 ≡ 32 =
    sym (ap (λ t. get_or t c.first_space-at.result 0) value) ∙ c.first_space-at.ensures.here (omega (arith, within, ap length value)) in
    IsCharBoundary-after_ascii c.args.text.now c.first_space-at.result c.utf8.text within (omega (arith, byte))
