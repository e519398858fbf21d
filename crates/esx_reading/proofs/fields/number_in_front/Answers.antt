use Rattle.std.proofs.Common.{◌≡◌, ◌<◌, ⊎_elim, arith, length, get_or, ap, sym, ◌∙◌}
use Rattle.std.proofs.lemmas.Str.{IsCharBoundary-after_ascii}
use Rattle.esx_reading.proofs.FrontLemmas.{front_alone, front_parted}
use Rattle.esx_reading.proofs.fields.number_in_front.Goals as goal

pub returns-then-count-bytes-clause-read : goal.returns-then-count-bytes-clause-read
returns-then-count-bytes-clause-read c =
    let read = c.in_ok-number.ensures in
    let bytes = c.as_bytes-bytes.result.now in
    let first : c.in_ok-first.field-0.now ≡ get_or bytes 0 0 = c.in_ok-first.ensures.item.3.1 0 in
    front_alone c.args.text.now bytes c.in_ok-number.number c.in_ok-number.count c.as_bytes-bytes.ensures.value (record {
      within = read.within;
      some = omega (arith, c.if-count-eq0.false);
      lead = λ low. ⊎_elim (λ w. w.1) (λ w. absurd (omega (arith, first, w, low))) c.else-first-le48.either;
      small = read.small;
      digits = read.digits.0;
      value = read.digits.1;
    }) c.if-count-bytes.true

pub split_at-requires : goal.split_at-requires
split_at-requires c =
    let value = c.as_bytes-bytes.ensures.value in
    let count = c.in_ok-number.count in
    let less : count < length c.as_bytes-bytes.result.now = omega (arith, c.in_ok-number.ensures.within, c.if-count-bytes.false) in
    let space : get_or c.args.text.now count 0 ≡ 32 = sym (ap (λ t. get_or t count 0) value) ∙ c.in_ok-number.ensures.end less in
    IsCharBoundary-after_ascii c.args.text.now count c.utf8.text (omega (arith, less, ap length value)) (omega (arith, space))

pub returns-clause-read : goal.returns-clause-read
returns-clause-read c =
    let read = c.in_ok-number.ensures in
    let bytes = c.as_bytes-bytes.result.now in
    let first : c.in_ok-first.field-0.now ≡ get_or bytes 0 0 = c.in_ok-first.ensures.item.3.1 0 in
    let less : c.in_ok-number.count < length bytes = omega (arith, read.within, c.if-count-bytes.false) in
    front_parted c.args.text.now bytes _ c.in_ok-number.number c.in_ok-number.count c.as_bytes-bytes.ensures.value (record {
      within = read.within;
      some = omega (arith, c.if-count-eq0.false);
      lead = λ low. ⊎_elim (λ w. w.1) (λ w. absurd (omega (arith, first, w, low))) c.else-first-le48.either;
      small = read.small;
      digits = read.digits.0;
      value = read.digits.1;
    }) less (read.end less) c.split_at.ensures.back
