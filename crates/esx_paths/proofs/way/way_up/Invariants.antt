use Rattle.std.proofs.Common.{◌≤◌, ◌++◌, List, length}
use Rattle.esx_paths.specs.declared.way.Waypoint.{Waypoint}
use Rattle.esx_paths.specs.Ways.{IsWayUp}
use Rattle.esx_paths.proofs.way.way_up.Given as goal

abbrev pub invariant-loop-node : goal.invariant-loop-node
invariant-loop-node l = record {
  fits : l.node ≤ length l.makers;
  way : (rest : List Waypoint) → IsWayUp l.makers l.node rest → IsWayUp l.makers l.fn.node (l.ups.items ++ rest);
}

abbrev pub decreases-loop-node : goal.decreases-loop-node
decreases-loop-node l = l.node
