use Rattle.std.proofs.Common.{◌≡◌, take}
use Rattle.esx_sums.specs.Sums.{stood_in}
use Rattle.esx_sums.proofs.tallies.stand.Given as goal

abbrev pub invariant-loop-at : goal.invariant-loop-at
invariant-loop-at l = l.now ≡ stood_in l.initial.now (take l.at l.present)
