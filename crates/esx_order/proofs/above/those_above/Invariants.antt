use Rattle.std.proofs.Common.{◌≡◌, take, map, filter}
use Rattle.esx_model.specs.declared.scene.Scene.{Scene}
use Rattle.esx_machine.specs.Machine.{Shows}
use Rattle.esx_order.specs.Order.{is_above, told_of}
use Rattle.esx_order.proofs.above.those_above.Given as goal

abbrev pub invariant-loop-row : goal.invariant-loop-row
invariant-loop-row l = (scene : Scene) → Shows l.machine scene → l.all.items ≡ map (told_of scene.site) (filter is_above (take l.row-index l.row-items))
