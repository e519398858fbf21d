use Rattle.std.proofs.Common.{◌≡◌}
use Rattle.esx_door.specs.Calls.{AreMade}
use Rattle.esx_door.specs.Gates.{LetThrough}
use Rattle.esx_door.specs.Own.{lines_of}
use Rattle.esx_workers.specs.Runs.{Running}
use Rattle.esx_workers.proofs.running.run.Given as goal

abbrev pub invariant-loop-turn : goal.invariant-loop-turn
invariant-loop-turn g l =
    g.D.Door.can_submit l.door
    × g.D.Door.leads l.initial.door l.door
    × (g.D.Door.caller l.door ≡ g.D.Door.caller l.initial.door)
    × Running (g.D.Door.caller l.initial.door) l.initial.worker l.worker l.tally.first l.tally.passed l.turn (lines_of (g.D.Door.caller l.initial.door) (g.D.Door.seen l.initial.door)) (lines_of (g.D.Door.caller l.initial.door) (g.D.Door.seen l.door))
    × (g.G.Gate.is_open l.initial.gate → g.G.Gate.is_open l.gate)
    × LetThrough g.G.Gate.passes l.turn l.initial.gate l.gate
    × AreMade g.D.Door.made l.turn l.initial.door l.door
