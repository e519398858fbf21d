use Rattle.std.proofs.Common.{◌≡◌, Ok}
use Rattle.esx_refused.specs.Promised.{AreWithin, promised_below}
use Rattle.esx_refused.proofs.coming.admitted.Given as goal

abbrev pub invariant-loop-number : goal.invariant-loop-number
invariant-loop-number l = record {
  come : promised_below l.site l.guests l.number ≡ Ok l.so_far;
  within : AreWithin l.site l.so_far;
}
