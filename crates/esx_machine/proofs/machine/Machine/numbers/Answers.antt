use Rattle.std.proofs.Common.{◌≡◌, ◌≤◌, ◌+◌, ℕ, true, subst, None}
use Rattle.std.specs.Option.{is_some}
use Rattle.esx_model.specs.declared.scene.Scene.{Scene}
use Rattle.esx_model.specs.Site.{vm_at}
use Rattle.esx_machine.specs.Machine.{Kept, Shows}
use Rattle.esx_machine.proofs.Advised.{none_shown, some_shown}
use Rattle.esx_machine.proofs.machine.Machine.numbers.Goals as goal

pub returns-clause-past : goal.returns-clause-past
returns-clause-past c =
    let k : Kept = record { config = c.self.inside.thresholds; level = c.self.inside.level; tables = c.self.inside.tables } in
    let P : Kept → Type 0 = λ x. (scene : Scene) (n : ℕ) → Shows x scene → c.numbers_of.result ≤ n → vm_at scene.site n ≡ None in
    subst P c.self.view_is (λ scene n shows past. none_shown k scene n shows (c.numbers_of.ensures.past n past))

pub returns-clause-last : goal.returns-clause-last
returns-clause-last c =
    let k : Kept = record { config = c.self.inside.thresholds; level = c.self.inside.level; tables = c.self.inside.tables } in
    let P : Kept → Type 0 = λ x. (scene : Scene) (n : ℕ) → Shows x scene → n + 1 ≡ c.numbers_of.result → is_some (vm_at scene.site n) ≡ true in
    subst P c.self.view_is (λ scene n shows is. some_shown k scene n shows (c.numbers_of.ensures.last n is))
