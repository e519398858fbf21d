use Rattle.std.proofs.Common.{◌≡◌, ◌%◌, take, map}
use Rattle.esx_steps.proofs.event.sampling.drawn.Given as goal

abbrev pub invariant-loop-word : goal.invariant-loop-word
invariant-loop-word l = l.pages ≡ map (λ w. w % l.max) (take l.word-index l.words)
