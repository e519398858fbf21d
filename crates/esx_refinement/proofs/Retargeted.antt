-- New targets, one for each machine in order of number.
use Rattle.std.proofs.Common.{◌≡◌, ℕ, ◌+◌, List, [], ◌∷◌, ◌++◌, length, get_or, set, map, refl, sym, ap, ◌∙◌, append_assoc, Option, Some, None}
use Rattle.std.specs.Option.{option_map}
use Rattle.std.proofs.lemmas.List.{get_or_at, set_at, length_push}
use Rattle.esx_model.specs.declared.book.VmRow.{VmRow}
use Rattle.esx_model.specs.declared.scene.Vm.{Vm}
use Rattle.esx_model.specs.declared.tables.Tables.{Tables}
use Rattle.esx_model.specs.Tables.{vm_table}
use Rattle.esx_model.specs.Moved.{put_vm}
use Rattle.esx_model.specs.event.Rebalancing.{with_targets, at_max}
use Rattle.esx_tables.specs.declared.change.Change.{Change}
use Rattle.esx_tables.specs.declared.change.Change.TheVariants.{OfVm}
use Rattle.esx_tables.specs.declared.change.VmPart.TheVariants.{Target}
use Rattle.esx_tables.specs.Changes.{exchanged}
use Rattle.esx_tables.specs.Readings.{row_at}
use Rattle.esx_plans.specs.plan.Ratios.{numbered, ratio_row}
use Rattle.esx_plans.specs.plan.Rebalancing.{to_max, to_targets}
use Rattle.esx_refinement.proofs.Made.{exchanged_then, parts_made}

abbrev rows_of_vms : List (Option Vm) → List (Option VmRow)
rows_of_vms vms = map (option_map vm_table) vms

no_targets : (vms : List (Option Vm)) → with_targets vms [] ≡ vms
no_targets [] = refl
no_targets (None ∷ vms) = ap (λ (os : List (Option Vm)). None ∷ os) (no_targets vms)
no_targets (Some v ∷ vms) = ap (λ (os : List (Option Vm)). Some v ∷ os) (no_targets vms)

-- the machines that come after those in front
module _ (tau : ℕ) (floor : VmRow → ℕ) where
  pub targets_made : (t : Tables) (n : ℕ) (front : List (Option VmRow)) (vms : List (Option Vm)) (targets : List ℕ) → length front ≡ n → t.vms ≡ front ++ rows_of_vms vms
      → (exchanged t (to_targets (numbered (ratio_row tau floor) n (rows_of_vms vms)) targets)).0 ≡ record t { vms = front ++ rows_of_vms (with_targets vms targets) }
  unfolding exchanged
  targets_made t n front [] targets long there = ap (λ (vms : List (Option VmRow)). record t { vms = vms }) there
  targets_made t n front (None ∷ vms) targets long there =
      targets_made t (n + 1) (front ++ None ∷ []) vms targets (length_push front None ∙ ap (λ (k : ℕ). k + 1) long) (there ∙ sym (append_assoc front (None ∷ []) (rows_of_vms vms)))
      ∙ ap (λ (rows : List (Option VmRow)). record t { vms = rows }) (append_assoc front (None ∷ []) (rows_of_vms (with_targets vms targets)))
  targets_made t n front (Some v ∷ vms) [] long there =
      ap (λ (rows : List (Option VmRow)). record t { vms = rows }) (there ∙ ap (λ (os : List (Option Vm)). front ++ Some (vm_table v) ∷ rows_of_vms os) (sym (no_targets vms)))
  targets_made t n front (Some v ∷ vms) (target ∷ targets) long there =
      let row : VmRow = record (vm_table v) { target = target } in
      let after : Tables = put_vm t n (Some row) in
      let rest : List Change = to_targets (numbered (ratio_row tau floor) (n + 1) (rows_of_vms vms)) targets in
      let is : row_at t n ≡ Some (vm_table v) = ap (λ (rows : List (Option VmRow)). get_or rows n None) there ∙ get_or_at front (Some (vm_table v)) (rows_of_vms vms) None n long in
      let one : (exchanged t (OfVm n (Target target) ∷ [])).0 ≡ after = parts_made t n (vm_table v) (Target target ∷ []) is in
      let stands : after.vms ≡ (front ++ Some row ∷ []) ++ rows_of_vms vms =
      ap (λ (rows : List (Option VmRow)). set rows n (Some row)) there ∙ set_at front (Some (vm_table v)) (rows_of_vms vms) (Some row) n long ∙ sym (append_assoc front (Some row ∷ []) (rows_of_vms vms)) in
      exchanged_then t (OfVm n (Target target) ∷ []) rest
      ∙ ap (λ (u : Tables). (exchanged u rest).0) one
      ∙ targets_made after (n + 1) (front ++ Some row ∷ []) vms targets (length_push front (Some row) ∙ ap (λ (k : ℕ). k + 1) long) stands
      ∙ ap (λ (rows : List (Option VmRow)). record t { vms = rows }) (append_assoc front (Some row ∷ []) (rows_of_vms (with_targets vms targets)))

-- Each machine with all it asked for.

pub maxes : List (Option Vm) → List ℕ
maxes [] = []
maxes (None ∷ vms) = maxes vms
maxes (Some v ∷ vms) = v.spec.max ∷ maxes vms

pub maxes_are : (vms : List (Option Vm)) → with_targets vms (maxes vms) ≡ map (option_map at_max) vms
unfolding maxes
maxes_are [] = refl
maxes_are (None ∷ vms) = ap (λ (os : List (Option Vm)). None ∷ os) (maxes_are vms)
maxes_are (Some v ∷ vms) = ap (λ (os : List (Option Vm)). Some (at_max v) ∷ os) (maxes_are vms)

pub maxes_changed : (tau : ℕ) (floor : VmRow → ℕ) (n : ℕ) (vms : List (Option Vm)) → numbered to_max n (rows_of_vms vms) ≡ to_targets (numbered (ratio_row tau floor) n (rows_of_vms vms)) (maxes vms)
unfolding maxes
maxes_changed tau floor n [] = refl
maxes_changed tau floor n (None ∷ vms) = maxes_changed tau floor (n + 1) vms
maxes_changed tau floor n (Some v ∷ vms) = ap (λ (changes : List Change). OfVm n (Target v.spec.max) ∷ changes) (maxes_changed tau floor (n + 1) vms)
