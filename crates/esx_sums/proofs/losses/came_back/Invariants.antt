use Rattle.std.proofs.Common.{◌≡◌, take}
use Rattle.esx_sums.specs.Losses.{came_back, AreFewReturns}
use Rattle.esx_sums.proofs.losses.came_back.Given as goal

abbrev pub invariant-loop-at : goal.invariant-loop-at
invariant-loop-at l = (l.sums ≡ came_back l.vm l.life (take l._at l.losses)) × AreFewReturns l._at l.sums
