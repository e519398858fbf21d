use Rattle.std.proofs.Common.{sym, subst}
use Rattle.esx_types.specs.declared.config.Config.{Config}
use Rattle.esx_plans.specs.plan.Balloon.{CanEpochsRise}
use Rattle.esx_plans.specs.plan.Event.{ArePlannable}
use Rattle.esx_machine.specs.Machine.{Kept}
use Rattle.esx_machine.proofs.Applies.{kept_plannable}
use Rattle.esx_machine.proofs.machine.Machine.plan.Goals as goal

pub plan-requires : goal.plan-requires
plan-requires c =
    let k : Kept = record { config = c.self.inside.thresholds; level = c.self.inside.level; tables = c.self.inside.tables } in
    let P : Kept → Type 0 = λ k. CanEpochsRise k.tables in
    let whole = subst (λ (x : Config). ArePlannable x k.tables) (sym c.config.ensures) (kept_plannable k c.self.invariant) in
    record { whole = whole; rise = subst P (sym c.self.view_is) c.requires }

pub invariant_of-self : goal.invariant_of-self
invariant_of-self c = rw c.plan.ensures.same c.self.invariant
