use Rattle.std.proofs.Common.{◌≡◌, replicate}
use Rattle.esx_sums.specs.Sums.{blank}
use Rattle.esx_sums.proofs.tallies.no_tallies.Given as goal

abbrev pub invariant-loop-number : goal.invariant-loop-number
invariant-loop-number l = l.now.items ≡ replicate l._number (blank 0)
