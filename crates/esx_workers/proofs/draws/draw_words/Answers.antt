use Rattle.std.proofs.Common.{◌≡◌, ℕ, ◌-◌, ◌+◌, ◌≤◌, List, [], ◌∷◌, ◌++◌, sym, ap, ◌∙◌, arith}
use Rattle.rand_pcg.specs.Lcg.{Lcg}
use Rattle.esx_workers.specs.Draws.{word, after_word, words_of, after_words}
use Rattle.esx_workers.proofs.Drawing.{words_on, after_first, words_last, after_last}
use Rattle.esx_workers.proofs.draws.draw_words.Goals as goal

pub loop-preserved : goal.loop-preserved
loop-preserved c =
    let n = c.args.count in
    let i = c.loop.counter in
    let g = c.loop.rng in
    let xs = c.loop.words.items in
    let left = n - (i + 1) in
    let items : c.push.new.self.items ≡ xs ++ word g ∷ [] = c.in_ok-push.ensures.items ∙ ap (λ (w : ℕ). xs ++ w ∷ []) c.draw_word.ensures.value in (
      ap (λ (h : Lcg). c.push.new.self.items ++ words_of left h) c.draw_word.ensures.rng ∙ (ap (λ (l : List ℕ). l ++ words_of left (after_word g)) items ∙ (words_on n i g xs c.loop-test.true ∙ c.loop.invariant.0)),
      ap (after_words left) c.draw_word.ensures.rng ∙ (sym (after_first n i g c.loop-test.true) ∙ c.loop.invariant.1),
    )

pub returns-clause-words : goal.returns-clause-words
returns-clause-words c =
    let n = c.args.count in
    let i = c.loop.counter in
    let past : n ≤ i = c.loop-test.false in
    let none : n - i ≡ 0 = omega arith in
    sym (words_last n i c.loop.rng c.loop.words.items none) ∙ c.loop.invariant.0

pub returns-clause-rng : goal.returns-clause-rng
returns-clause-rng c =
    let n = c.args.count in
    let i = c.loop.counter in
    let past : n ≤ i = c.loop-test.false in
    let none : n - i ≡ 0 = omega arith in
    sym (after_last n i c.loop.rng none) ∙ c.loop.invariant.1
