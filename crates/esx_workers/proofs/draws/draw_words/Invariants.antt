use Rattle.std.proofs.Common.{◌≡◌, ◌-◌, ◌++◌}
use Rattle.esx_workers.specs.Draws.{words_of, after_words}
use Rattle.esx_workers.proofs.draws.draw_words.Given as goal

abbrev pub invariant-loop : goal.invariant-loop
invariant-loop l =
    (l.words.items ++ words_of (l.count - l.counter) l.rng ≡ words_of l.count l.initial.rng)
    × (after_words (l.count - l.counter) l.rng ≡ after_words l.count l.initial.rng)
