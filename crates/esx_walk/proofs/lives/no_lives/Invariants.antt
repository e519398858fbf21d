use Rattle.std.proofs.Common.{◌≡◌, replicate}
use Rattle.esx_walk.specs.Account.{no_life}
use Rattle.esx_walk.proofs.lives.no_lives.Given as goal

abbrev pub invariant-loop-number : goal.invariant-loop-number
invariant-loop-number l = l.lives.items ≡ replicate l._number no_life
