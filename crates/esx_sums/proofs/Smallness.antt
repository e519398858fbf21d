-- What stands of the machines of a sound site is small.
use Rattle.std.proofs.Common.{◌≡◌, ℕ, zero, suc, List, [], ◌∷◌, map, get_or, refl, arith, Option, Some, None, option_map}
use Rattle.std.specs.List.{AllByRecursion}
use Rattle.std.proofs.lemmas.List.{length-map}
use Rattle.esx_types.specs.declared.config.Config.{Config}
use Rattle.esx_model.specs.declared.scene.Vm.{Vm}
use Rattle.esx_model.specs.sound.Machines.{IsVm}
use Rattle.esx_model.proofs.Callers.{resident_most}
use Rattle.esx_sums.specs.Few.{IsSmall}
use Rattle.esx_sums.specs.Laws.{IsPresentSmall}
use Rattle.esx_sums.specs.Sums.{present_of}

small_from : (c : Config) (vms : List (Option Vm)) → ((n : ℕ) (v : Vm) → get_or vms n None ≡ Some v → IsVm c v) → AllByRecursion IsSmall (map (λ (o : Option Vm). option_map present_of o) vms)
small_from c [] each = tt
small_from c (None ∷ vms) each = (tt, small_from c vms (λ n v h. each (suc n) v h))
small_from c (Some v ∷ vms) each =
    let fine = each zero v refl in
    let here = resident_most c v fine in
    let most = fine.good.most_max in
    let out = fine.out in
    ((omega (arith, here, most), omega (arith, out, most)), small_from c vms (λ n v h. each (suc n) v h))

pub present_small : IsPresentSmall
present_small c s sound =
    let long = length-map s.vms (λ (o : Option Vm). option_map present_of o) in
    let count = sound.vms in
    record { count = omega (arith, long, count); each = small_from c s.vms sound.each }
