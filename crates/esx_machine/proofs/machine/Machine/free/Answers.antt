use Rattle.std.proofs.Common.{◌≡◌, ap, ◌∙◌, subst}
use Rattle.esx_frames.specs.declared.counts.Counts.{Counts}
use Rattle.esx_model.specs.declared.scene.Scene.{Scene}
use Rattle.esx_model.specs.Site.{free_count}
use Rattle.esx_machine.specs.Machine.{Kept, Shows}
use Rattle.esx_machine.proofs.Read.{free_shown}
use Rattle.esx_machine.proofs.machine.Machine.free.Goals as goal

pub returns-clause-shown : goal.returns-clause-shown
returns-clause-shown c =
    let k : Kept = record { config = c.self.inside.thresholds; level = c.self.inside.level; tables = c.self.inside.tables } in
    let P : Kept → Type 0 = λ k. (scene : Scene) → Shows k scene → c.counts.result.free ≡ free_count k.config.frames scene.site in
    subst P c.self.view_is (λ scene shows. ap (λ (x : Counts). x.free) c.counts.ensures ∙ free_shown k scene shows)
