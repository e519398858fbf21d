use Rattle.std.proofs.Common.{◌-◌, ◌≡◌, ◌≤◌}
use Rattle.esx_keys.specs.Chains.{after, IsIn}
use Rattle.esx_keys.specs.Index.{chain_in, link_in}
use Rattle.esx_keys.proofs.index.Index.last_below.Given as goal

abbrev pub invariant-loop-at : goal.invariant-loop-at
invariant-loop-at l = record {
  within : IsIn (chain_in l.self) l.chain l.last;
  below : after l.last ≤ l.frame;
  link : l.at ≡ link_in l.self l.chain l.last;
}

abbrev pub decreases-loop-at : goal.decreases-loop-at
decreases-loop-at l = l.frame - l.at
