use Rattle.std.proofs.Common.{◌≡◌, take}
use Rattle.esx_sums.specs.Losses.{level_losses}
use Rattle.esx_sums.proofs.losses.level_losses.Given as goal

abbrev pub invariant-loop-at : goal.invariant-loop-at
invariant-loop-at l = l.sums ≡ level_losses l.fn.level (take l._at l.losses)
