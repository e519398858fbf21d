use Rattle.std.proofs.Common.{◌≡◌, ◌≤◌, drop}
use Rattle.esx_opening.specs.Orders.{of_number}
use Rattle.esx_refused.specs.Promised.{all_started}
use Rattle.esx_refused.proofs.starting.with_number.Given as goal

abbrev pub invariant-loop-guest : goal.invariant-loop-guest
invariant-loop-guest l = record {
  left : all_started l.site l.fn.nodes (of_number l.guests l.number) ≡ all_started l.site l.made (of_number (drop l.guest-index l.guests) l.number);
  within : l.made ≤ l.site.nodes;
}
