use Rattle.std.proofs.Common.{◌≡◌, take, map}
use Rattle.esx_plans.specs.plan.Sampling.{drawn}
use Rattle.esx_plans.proofs.plan.sampling.marks.Given as goal

abbrev pub invariant-loop-word : goal.invariant-loop-word
invariant-loop-word l = l.marks.items ≡ map (drawn l.max) (take l.word-index l.words)
