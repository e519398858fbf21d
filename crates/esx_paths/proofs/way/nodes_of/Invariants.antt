use Rattle.std.proofs.Common.{◌≡◌, ◌∷◌, map, take}
use Rattle.esx_paths.specs.declared.way.Waypoint.{Waypoint}
use Rattle.esx_paths.proofs.way.nodes_of.Given as goal

abbrev pub invariant-loop-waypoint : goal.invariant-loop-waypoint
invariant-loop-waypoint l = l.nodes.items ≡ 0 ∷ map (λ (w : Waypoint). w.node) (take l.waypoint-index l.waypoints)
