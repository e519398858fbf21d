use Rattle.std.proofs.Common.{◌≡◌, false, drop}
use Rattle.esx_opening.specs.Orders.{of_number}
use Rattle.esx_refused.specs.Promised.{AreWithin, all_promised}
use Rattle.esx_refused.proofs.coming.with_number.Given as goal

abbrev pub invariant-loop-guest : goal.invariant-loop-guest
invariant-loop-guest l = record {
  left : all_promised l.site l.fn.so_far false (of_number l.guests l.number) ≡ all_promised l.site l.now l.there (of_number (drop l.guest-index l.guests) l.number);
  within : AreWithin l.site l.now;
}
