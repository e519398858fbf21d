-- The rows of the machines from a number on.
use Rattle.std.proofs.Common.{◌≡◌, ℕ, ◌+◌, ◌<◌, ◌∷◌, length, drop, ap, ◌∙◌, arith, Some, None}
use Rattle.std.proofs.lemmas.List.{at_drop_more}
use Rattle.esx_types.specs.declared.config.Config.{Config}
use Rattle.esx_formulas.specs.Ratio.{AreRows}
use Rattle.esx_model.specs.declared.scene.Vm.{Vm}
use Rattle.esx_model.specs.declared.scene.Site.{Site}
use Rattle.esx_model.specs.Site.{vm_at}
use Rattle.esx_model.specs.event.Rebalancing.{row_of_vm, rows_from, rows_of, min_of}
use Rattle.esx_model.specs.sound.Sound.{IsSound}
use Rattle.esx_model.proofs.Callers.{rows_of_sound}

pub rows_none : (s : Site) (i : ℕ) → i < length s.vms → vm_at s i ≡ None → rows_from s.tau min_of i (drop i s.vms) ≡ rows_from s.tau min_of (i + 1) (drop (i + 1) s.vms)
rows_none s i h none = at_drop_more (rows_from s.tau min_of i) s.vms i None h ∙ ap (λ o. rows_from s.tau min_of i (o ∷ drop (i + 1) s.vms)) none

pub rows_some : (s : Site) (i : ℕ) (v : Vm) → i < length s.vms → vm_at s i ≡ Some v
    → rows_from s.tau min_of i (drop i s.vms) ≡ row_of_vm s.tau i v.spec.min v ∷ rows_from s.tau min_of (i + 1) (drop (i + 1) s.vms)
rows_some s i v h there = at_drop_more (rows_from s.tau min_of i) s.vms i None h ∙ ap (λ o. rows_from s.tau min_of i (o ∷ drop (i + 1) s.vms)) there

pub rows_fit : (c : Config) (s : Site) → IsSound c s → AreRows (rows_of min_of s)
rows_fit c s sound = rows_of_sound c s min_of sound (λ v fine. omega (arith, fine.good.min_max, fine.good.most_max))
