use Rattle.std.proofs.Common.{◌≡◌, ◌<◌, ◌≤◌, length, Some}
use Rattle.esx_model.specs.declared.scene.Scene.{Scene}
use Rattle.esx_model.specs.declared.scene.Vm.{Vm}
use Rattle.esx_model.specs.Site.{vm_at}
use Rattle.esx_machine.specs.Machine.{Shows}
use Rattle.esx_pageout.specs.Word.{here_before}
use Rattle.esx_pageout.proofs.word.here_before.Given as goal

abbrev pub invariant-loop-earlier : goal.invariant-loop-earlier
invariant-loop-earlier l = record {
  few : l.count ≤ l.earlier;
  is : (scene : Scene) (v : Vm) → Shows l.machine scene → vm_at scene.site l.vm ≡ Some v → l.page < length v.places → l.count ≡ here_before v.places l.earlier;
}
