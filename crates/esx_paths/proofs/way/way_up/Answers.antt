use Rattle.std.proofs.Common.{◌≡◌, [], List, subst, append-nil, arith}
use Rattle.esx_paths.specs.declared.way.Waypoint.{Waypoint}
use Rattle.esx_paths.specs.Ways.{IsWayUp}
use Rattle.esx_paths.proofs.way.way_up.Goals as goal

pub returns : goal.returns
returns c =
    let over : c.loop-node.node ≡ 0 = omega arith in
    let P : List Waypoint → Type 0 = IsWayUp c.args.makers.now c.args.node in
    subst P (append-nil c.loop-node.ups.items) (c.loop-node.invariant.way [] over)
