use Rattle.std.proofs.Common.{◌≡◌, subst, ◌∙◌}
use Rattle.std.specs.Option.{option_map}
use Rattle.esx_model.specs.declared.scene.Scene.{Scene}
use Rattle.esx_model.specs.Site.{vm_at}
use Rattle.esx_model.specs.event.Outcome.{standing}
use Rattle.esx_machine.specs.Machine.{Kept, Shows}
use Rattle.esx_machine.proofs.Advised.{standing_there}
use Rattle.esx_machine.proofs.machine.Machine.standing.Goals as goal

pub returns : goal.returns
returns c =
    let k : Kept = record { config = c.self.inside.thresholds; level = c.self.inside.level; tables = c.self.inside.tables } in
    let P : Kept → Type 0 = λ x. (scene : Scene) → Shows x scene → c.standing_of_vm.result ≡ option_map standing (vm_at scene.site c.args.vm) in
    subst P c.self.view_is (λ scene shows. c.standing_of_vm.ensures ∙ standing_there k scene c.args.vm shows)
