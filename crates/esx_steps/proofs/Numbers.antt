-- The numbers of a machine of a sound site.
use Rattle.std.proofs.Common.{◌≡◌, ℕ, ◌≤◌, length, arith, Option, Some, None, subst}
use Rattle.std.proofs.lemmas.List.Elements.{All-from_recursion}
use Rattle.esx_types.specs.declared.config.Config.{Config}
use Rattle.esx_types.specs.declared.vm.VmState.{VmState}
use Rattle.esx_types.specs.declared.vm.VmState.TheVariants.{Starting, Running, Stopping}
use Rattle.esx_formulas.specs.declared.activity.Period.{Period}
use Rattle.esx_formulas.specs.Estimates.{IsEstimate}
use Rattle.esx_model.specs.declared.scene.Vm.{Vm}
use Rattle.esx_model.specs.sound.Machines.{IsVm, IsPeriod, IsPeriodOrNone, FitsState}
use Rattle.esx_model.proofs.Callers.{some_same}
use Rattle.esx_steps.specs.Numbers.{HasNumbers}

few_overhead : (v : Vm) (s : VmState) → FitsState v s → length v.overhead ≤ v.spec.overhead
few_overhead v Starting h = let less = h.0 in omega arith
few_overhead v Running h = omega arith
few_overhead v Stopping h = h.0

period_of : (max : ℕ) (o : Option Period) (p : Period) → IsPeriodOrNone max o → o ≡ Some p → IsPeriod max p
period_of max None p h e = absurd cc
period_of max (Some q) p h e = subst (IsPeriod max) (some_same q p e) h

pub numbers : (c : Config) (v : Vm) → IsVm c v → HasNumbers v
numbers c v h =
    let good = h.good in
    let few = few_overhead v v.state h.state in
    let most = good.most_overhead in
    let low = good.least_min in
    let high = good.min_max in
    record {
      places = h.pages;
      max = good.most_max;
      least_max = omega arith;
      shares = good.least_shares;
      most_shares = good.most_shares;
      floor = good.min_max;
      overhead = omega arith;
      closed = All-from_recursion IsEstimate v.closed h.closed;
      pages = λ p e. (period_of v.spec.max v.period p h.period e).least_pages;
      most_pages = λ p e. (period_of v.spec.max v.period p h.period e).most_pages;
      accessed = λ p e. (let q = period_of v.spec.max v.period p h.period e in let a = q.open_still in let b = q.most_length in omega arith);
    }
