use Rattle.std.proofs.Common.{◌≡◌, drop}
use Rattle.esx_model.specs.declared.scene.Scene.{Scene}
use Rattle.esx_machine.specs.Machine.{Shows}
use Rattle.esx_walk.specs.Holding.{with_rows}
use Rattle.esx_walk.proofs.holding.hold_rows.Given as goal

abbrev pub invariant-loop-at : goal.invariant-loop-at
invariant-loop-at l = (scene : Scene) → Shows l.machine scene → with_rows scene.site l.held (drop l._at l.rows) ≡ with_rows scene.site l.initial.held l.rows
