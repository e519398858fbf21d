use Rattle.std.proofs.Common.{◌≡◌, ◌<◌, ◌∙◌, ap, sym, subst, take, length, arith}
use Rattle.std.specs.Int.Digits.{number_from_digits}
use Rattle.std.proofs.Math.Seq.{take-length}
use Rattle.std.proofs.lemmas.List.{take-take, length-map, length-take-le}
use lib.Lanes.{Each1}
use Rattle.esx_reading.proofs.LaneLemmas.{each_of_front, front_of_more, less_zero}
use Rattle.esx_reading.proofs.fields.many_digits_in_front.Goals as goal

pub digits_from-requires-clause-digits : goal.digits_from-requires-clause-digits
digits_from-requires-clause-digits c =
    let vs = c.values-values.result in
    let sixteen = c.in-Some.sixteen.now in
    let long : length vs ≡ 16 = ap length c.values-values.ensures ∙ length-map sixteen less_zero ∙ ap length c.in-Some.ensures.cases.0
    ∙ length-take-le 16 c.args.bytes.now (omega (arith, c.in-Some.ensures.cases.2)) in
    let whole : take 16 vs ≡ vs = ap (λ k. take k vs) (sym long) ∙ take-length vs in
    let digits : Each1 (λ d. d < 10) (take 16 vs) = subst (λ k. Each1 (λ d. d < 10) (take k vs)) c.if-count-eq16.true c.digits_len-count.ensures.digits in
    front_of_more c.args.bytes.now sixteen vs 16 c.number_of_sixteen.result (λ i. (c.type_inv.bytes i).fits) c.in-Some.ensures.cases.0 (omega arith)
    c.values-values.ensures digits (c.number_of_sixteen.ensures.value ∙ ap (number_from_digits 10) (sym whole))

pub number_of_few-requires-clause-digits : goal.number_of_few-requires-clause-digits
number_of_few-requires-clause-digits c =
    let vs = c.values-values.result in
    let count = c.digits_len-count.result in
    subst (Each1 (λ d. d < 10)) (take-take 8 count vs (omega (arith, c.if-count-gt8.true)))
    (each_of_front (λ d. d < 10) 8 (take count vs) c.digits_len-count.ensures.digits)

pub digits_from-requires-then-count-gt8-clause-digits : goal.digits_from-requires-then-count-gt8-clause-digits
digits_from-requires-then-count-gt8-clause-digits c =
    let vs = c.values-values.result in
    let count = c.digits_len-count.result in
    let digits = subst (Each1 (λ d. d < 10)) (take-take 8 count vs (omega (arith, c.if-count-gt8.true)))
    (each_of_front (λ d. d < 10) 8 (take count vs) c.digits_len-count.ensures.digits) in
    front_of_more c.args.bytes.now c.in-Some.sixteen.now vs 8 c.number_of_few.result (λ i. (c.type_inv.bytes i).fits) c.in-Some.ensures.cases.0 (omega arith)
    c.values-values.ensures digits c.number_of_few.ensures

pub returns-clause-digits : goal.returns-clause-digits
returns-clause-digits c =
    front_of_more c.args.bytes.now c.in-Some.sixteen.now c.values-values.result c.digits_len-count.result c.number_of_few-2.result (λ i. (c.type_inv.bytes i).fits)
    c.in-Some.ensures.cases.0 c.digits_len-count.ensures.within c.values-values.ensures c.digits_len-count.ensures.digits c.number_of_few-2.ensures
