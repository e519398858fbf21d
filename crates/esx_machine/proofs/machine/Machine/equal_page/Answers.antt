use Rattle.std.proofs.Common.{◌≡◌, ◌∙◌, subst}
use Rattle.esx_model.specs.declared.scene.Scene.{Scene}
use Rattle.esx_model.specs.event.Paging.{compared}
use Rattle.esx_model.specs.event.Sharing.{found_by}
use Rattle.esx_machine.specs.Machine.{Kept, Shows}
use Rattle.esx_machine.proofs.Equals.{equal_shown}
use Rattle.esx_machine.proofs.machine.Machine.equal_page.Goals as goal

pub returns : goal.returns
returns c =
    let k : Kept = record { config = c.self.inside.thresholds; level = c.self.inside.level; tables = c.self.inside.tables } in
    let P : Kept → Type 0 = λ x. (scene : Scene) → Shows x scene → c.equal_page.result ≡ found_by scene.site (compared scene.site c.args.event.now) in
    subst P c.self.view_is (λ scene shows. c.equal_page.ensures ∙ equal_shown k scene c.args.event.now shows)
