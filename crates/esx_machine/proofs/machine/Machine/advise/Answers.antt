use Rattle.std.proofs.Common.{◌≡◌, ◌∙◌, subst}
use Rattle.esx_model.specs.declared.scene.Scene.{Scene}
use Rattle.esx_model.specs.Advice.{advice}
use Rattle.esx_machine.specs.Machine.{Kept, Shows}
use Rattle.esx_machine.proofs.Advised.{advice_shown}
use Rattle.esx_machine.proofs.Readable.{kept_readable}
use Rattle.esx_machine.proofs.machine.Machine.advise.Goals as goal

pub advise-requires : goal.advise-requires
advise-requires c =
    let k : Kept = record { config = c.self.inside.thresholds; level = c.self.inside.level; tables = c.self.inside.tables } in
    kept_readable k c.self.invariant

pub returns : goal.returns
returns c =
    let k : Kept = record { config = c.self.inside.thresholds; level = c.self.inside.level; tables = c.self.inside.tables } in
    let P : Kept → Type 0 = λ x. (scene : Scene) → Shows x scene → c.advise.result ≡ advice x.config scene c.args.vm c.args.page in
    subst P c.self.view_is (λ scene shows. c.advise.ensures ∙ advice_shown k scene c.args.vm c.args.page shows)
