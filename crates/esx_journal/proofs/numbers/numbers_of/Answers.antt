use Rattle.std.proofs.Common.{◌≡◌, ◌∙◌, ap, ap₂, arith, ℕ, List, take, drop, length, min}
use Rattle.std.proofs.lemmas.List.{take_min, drop_min}
use Rattle.esx_journal.specs.Marks.{pair_of}
use Rattle.esx_journal.proofs.numbers.numbers_of.Goals as goal

pub returns : goal.returns
returns c =
    let bytes : List ℕ = c.args.bytes.now in
    let at : c.min.result ≡ min 16 (length bytes) = c.min.ensures ∙ omega arith in
    let first : c.split_at.result.0.now ≡ take 16 bytes = c.split_at.ensures.front ∙ ap (λ n. take n bytes) at ∙ take_min 16 bytes in
    let rest : c.split_at.result.1.now ≡ drop 16 bytes = c.split_at.ensures.back ∙ ap (λ n. drop n bytes) at ∙ drop_min 16 bytes in
    ap₂ (λ (a b : ℕ × ℕ). (a, b)) (c.pair_of.ensures ∙ ap pair_of first) (c.pair_of-2.ensures ∙ ap pair_of rest)
