use Rattle.std.proofs.Common.{◌≡◌, ◌++◌, length, take, drop}
use Rattle.esx_walk.specs.Account.{map_from, set_life}
use Rattle.esx_walk.proofs.lives.set_all.Given as goal

abbrev pub invariant-loop-number : goal.invariant-loop-number
invariant-loop-number l = (l.lives ≡ map_from (set_life l.at l.answer l.given) 0 (take l.number l.initial.lives) ++ drop l.number l.initial.lives) × (l.number-end ≡ length l.initial.lives)
