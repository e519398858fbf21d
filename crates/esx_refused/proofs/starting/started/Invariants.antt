use Rattle.std.proofs.Common.{◌≡◌, ◌≤◌, Ok}
use Rattle.esx_refused.specs.Promised.{started_below}
use Rattle.esx_refused.proofs.starting.started.Given as goal

abbrev pub invariant-loop-number : goal.invariant-loop-number
invariant-loop-number l = record {
  started : started_below l.site l.fn.nodes l.guests l.number ≡ Ok l.made;
  within : l.made ≤ l.site.nodes;
}
