use Rattle.std.proofs.Common.{◌≡◌, ◌∙◌, ap, ap₂, arith, ℕ, List, take, drop, length, min}
use Rattle.std.proofs.lemmas.List.{take_min, drop_min}
use Rattle.esx_journal.specs.Marks.{number_of}
use Rattle.esx_journal.proofs.numbers.pair_of.Goals as goal

pub returns : goal.returns
returns c =
    let bytes : List ℕ = c.args.bytes.now in
    let at : c.min.result ≡ min 8 (length bytes) = c.min.ensures ∙ omega arith in
    let first : c.split_at.result.0.now ≡ take 8 bytes = c.split_at.ensures.front ∙ ap (λ n. take n bytes) at ∙ take_min 8 bytes in
    let rest : c.split_at.result.1.now ≡ drop 8 bytes = c.split_at.ensures.back ∙ ap (λ n. drop n bytes) at ∙ drop_min 8 bytes in
    ap₂ (λ (a b : ℕ). (a, b)) (c.number_of.ensures ∙ ap number_of first) (c.number_of-2.ensures ∙ ap number_of rest)
