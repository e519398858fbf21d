use Rattle.std.proofs.Common.{◌≡◌, ◌++◌, ◌-◌, length, take, drop}
use Rattle.esx_model.specs.declared.scene.Scene.{Scene}
use Rattle.esx_model.specs.Site.{vm_at}
use Rattle.esx_machine.specs.Machine.{Shows}
use Rattle.esx_story.specs.Waits.{left}
use Rattle.esx_walk.specs.Account.{map_from}
use Rattle.esx_walk.proofs.holding.give.Given as goal

abbrev pub invariant-loop-number : goal.invariant-loop-number
invariant-loop-number l = record {
  held : (scene : Scene) → Shows l.machine scene → l.held ≡ map_from (λ n k. k - left (vm_at scene.site n)) 0 (take l.number l.initial.held) ++ drop l.number l.initial.held;
  end : l.number-end ≡ length l.initial.held;
}
