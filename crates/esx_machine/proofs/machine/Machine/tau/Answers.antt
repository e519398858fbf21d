use Rattle.std.proofs.Common.{◌≡◌, ap, subst, ◌∙◌}
use Rattle.esx_model.specs.declared.scene.Scene.{Scene}
use Rattle.esx_model.specs.declared.tables.Tables.{Tables}
use Rattle.esx_machine.specs.Machine.{Kept, Shows}
use Rattle.esx_machine.proofs.machine.Machine.tau.Goals as goal

pub returns : goal.returns
returns c =
    let k : Kept = record { config = c.self.inside.thresholds; level = c.self.inside.level; tables = c.self.inside.tables } in
    let P : Kept → Type 0 = λ x. (scene : Scene) → Shows x scene → c.tau.result ≡ scene.site.tau in
    subst P c.self.view_is (λ scene shows. c.tau.ensures ∙ ap (λ (t : Tables). t.tau) shows.tables)
