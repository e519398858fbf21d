use Rattle.std.proofs.Common.{◌≡◌, List, subst}
use Rattle.std.specs.Result.{IfOk}
use Rattle.esx_formulas.specs.declared.targets.Row.{Row}
use Rattle.esx_model.specs.declared.scene.Scene.{Scene}
use Rattle.esx_model.specs.Advice.{target_of}
use Rattle.esx_model.specs.event.Rebalancing.{rows_of}
use Rattle.esx_machine.specs.Machine.{Kept, Shows}
use Rattle.esx_machine.proofs.Advised.{targets_shown}
use Rattle.esx_machine.proofs.Readable.{kept_readable}
use Rattle.esx_machine.proofs.machine.Machine.rows.Goals as goal

pub target_rows-requires : goal.target_rows-requires
target_rows-requires c =
    let k : Kept = record { config = c.self.inside.thresholds; level = c.self.inside.level; tables = c.self.inside.tables } in
    kept_readable k c.self.invariant

pub returns : goal.returns
returns c =
    let k : Kept = record { config = c.self.inside.thresholds; level = c.self.inside.level; tables = c.self.inside.tables } in
    let told : List Row → Type 0 = λ all. IfOk c.target_rows.result (λ rows. rows.items ≡ all) in
    let P : Kept → Type 0 = λ x. (scene : Scene) → Shows x scene → told (rows_of target_of scene.site) in
    subst P c.self.view_is (λ scene shows. subst told (targets_shown k scene shows) c.target_rows.ensures)
