-- The admission.
use Rattle.std.proofs.Common.{◌≡◌, ◌<◌, ℕ, ◌+◌, ◌-◌, Bool, false, List, [], ◌∷◌, length, map, sum_by, refl, sym, ap, ◌∙◌, subst, arith, Option, Some, None, Ok}
use Rattle.std.specs.Prelude.{is_some}
use Rattle.std.specs.Option.{option_map}
use Rattle.std.proofs.lemmas.List.{length-map}
use Rattle.std.proofs.lemmas.List.Sums.{sum_by-cons}
use Rattle.esx_types.specs.declared.config.Config.{Config}
use Rattle.esx_types.specs.declared.config.TheConstants.{VM_NUMBERS}
use Rattle.esx_types.specs.declared.vm.VmSpec.{VmSpec}
use Rattle.esx_events.specs.declared.event.Answer.TheVariants.{Admitted}
use Rattle.esx_model.specs.declared.scene.Vm.{Vm}
use Rattle.esx_model.specs.declared.scene.Site.{Site}
use Rattle.esx_model.specs.Site.{vm_at, with_vm, memory_reserve, swap_reserve}
use Rattle.esx_model.specs.Tables.{vm_table, tables_of}
use Rattle.esx_model.specs.event.Outcome.{unless}
use Rattle.esx_model.specs.event.Admission.{memory_with, swap_with, reserves_in, admit_gate, admitted, admit}
use Rattle.esx_model.specs.sound.Sound.{IsSound}
use Rattle.esx_model.proofs.Callers.{admitted_shown}
use Rattle.esx_tables.specs.declared.change.Change.TheVariants.{VmAt}
use Rattle.esx_tables.specs.Changes.{traded, exchanged}
use Rattle.esx_changes.specs.Planned.{Planned}
use Rattle.esx_refinement.specs.Refinement.{Refines}
use Rattle.esx_tables.specs.Promised.{memory_of, swap_of}
use Rattle.esx_plans.specs.plan.Admission.{memory_after, swap_after, admit_plan}
use Rattle.esx_refinement.proofs.Refining.{row_there, passes_gate, makes_shown}

-- a place for each machine
pub has_places : (c : Config) (s : Site) → IsSound c s → length (tables_of c s).vms ≡ VM_NUMBERS
has_places c s sound = length-map s.vms (option_map vm_table) ∙ sound.vms

-- What rows promise is what machines promise.

memory_same : (vms : List (Option Vm)) → sum_by memory_of (map (option_map vm_table) vms) ≡ sum_by memory_reserve vms
memory_same [] = refl
memory_same (None ∷ vms) =
    let a = sum_by-cons memory_of None (map (option_map vm_table) vms) in
    let b = sum_by-cons memory_reserve None vms in
    let rest = memory_same vms in
    omega (arith, a, b, rest)
memory_same (Some v ∷ vms) =
    let a = sum_by-cons memory_of (Some (vm_table v)) (map (option_map vm_table) vms) in
    let b = sum_by-cons memory_reserve (Some v) vms in
    let rest = memory_same vms in
    omega (arith, a, b, rest)

swap_same : (vms : List (Option Vm)) → sum_by swap_of (map (option_map vm_table) vms) ≡ sum_by swap_reserve vms
swap_same [] = refl
swap_same (None ∷ vms) =
    let a = sum_by-cons swap_of None (map (option_map vm_table) vms) in
    let b = sum_by-cons swap_reserve None vms in
    let rest = swap_same vms in
    omega (arith, a, b, rest)
swap_same (Some v ∷ vms) =
    let a = sum_by-cons swap_of (Some (vm_table v)) (map (option_map vm_table) vms) in
    let b = sum_by-cons swap_reserve (Some v) vms in
    let rest = swap_same vms in
    omega (arith, a, b, rest)

there_same : (o : Option Vm) → is_some (option_map vm_table o) ≡ is_some o
there_same None = refl
there_same (Some v) = refl

nobody : (o : Option Vm) → is_some o ≡ false → o ≡ None
nobody None h = refl
nobody (Some v) h = cc

-- the plan, from what it reads
abbrev plan_by : Config → ℕ → VmSpec → Bool → ℕ → ℕ → Planned
plan_by c n spec there memory swap =
    unless (admit_gate c there spec memory swap) (Ok (Admitted (reserves_in c memory swap), VmAt n (Some (vm_table (admitted spec))) ∷ []))

admits : (c : Config) (s : Site) (n : ℕ) (spec : VmSpec) → IsSound c s → n < VM_NUMBERS → Refines c s (plan_by c n spec (is_some (vm_at s n)) (memory_with s spec) (swap_with s spec)) (admit c s n spec)
unfolding admit exchanged traded
admits c s n spec sound named =
    passes_gate c s (admit_gate c (is_some (vm_at s n)) spec (memory_with s spec) (swap_with s spec)) _ _ (λ pass.
    let below : n < length s.vms = omega (arith, named, sound.vms) in
    makes_shown c s (Admitted (reserves_in c (memory_with s spec) (swap_with s spec))) (VmAt n (Some (vm_table (admitted spec))) ∷ []) (with_vm s n (admitted spec)) _
    refl (admitted_shown c s n spec below (nobody (vm_at s n) pass.0)))

pub admit_refines : (c : Config) (s : Site) (n : ℕ) (spec : VmSpec) → IsSound c s → n < VM_NUMBERS → Refines c s (admit_plan c (tables_of c s) n spec) (admit c s n spec)
unfolding admit_plan
admit_refines c s n spec sound named =
    let P : Bool → Type 0 = λ there. Refines c s (plan_by c n spec there (memory_after (tables_of c s) spec) (swap_after (tables_of c s) spec)) (admit c s n spec) in
    let Q : ℕ → Type 0 = λ memory. Refines c s (plan_by c n spec (is_some (vm_at s n)) memory (swap_after (tables_of c s) spec)) (admit c s n spec) in
    let R : ℕ → Type 0 = λ swap. Refines c s (plan_by c n spec (is_some (vm_at s n)) (memory_with s spec) swap) (admit c s n spec) in
    subst P (sym (ap is_some (row_there c s n) ∙ there_same (vm_at s n)))
    (subst Q (sym (ap (λ (m : ℕ). m + (spec.min + spec.overhead)) (memory_same s.vms)))
    (subst R (sym (ap (λ (m : ℕ). m + (spec.max - spec.min)) (swap_same s.vms)))
    (admits c s n spec sound named)))
