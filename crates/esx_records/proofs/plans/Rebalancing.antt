-- New targets, the tax and shares.
use Rattle.std.proofs.Common.{◌≡◌, ℕ, ◌+◌, ◌≤◌, List, [], ◌∷◌, length, refl, arith, Option, Some, None}
use Rattle.esx_types.specs.declared.config.TheConstants.{VM_NUMBERS}
use Rattle.esx_types.specs.declared.config.Config.{Config}
use Rattle.esx_types.specs.declared.level.Level.{Level}
use Rattle.esx_types.specs.declared.level.Level.TheVariants.{High, Soft, Hard, Low}
use Rattle.esx_formulas.specs.declared.targets.Row.{Row}
use Rattle.esx_formulas.specs.Targets.{targets_of}
use Rattle.esx_model.specs.declared.book.VmRow.{VmRow}
use Rattle.esx_model.specs.declared.tables.Tables.{Tables}
use Rattle.esx_model.specs.event.Rebalancing.{tax_gate, shares_gate}
use Rattle.esx_tables.specs.declared.change.Change.{Change}
use Rattle.esx_tables.specs.Readings.{row_at}
use Rattle.esx_tables.specs.Sizes.{bytes_held, marks_held, is_row, is_target}
use Rattle.esx_plans.specs.plan.Ratios.{numbered, ratio_row, ratio_rows, least_of}
use Rattle.esx_plans.specs.plan.Rebalancing.{to_max, to_targets, wanted, share_out_plan, rebalance_plan, tax_plan, vm_tax_plan, shares_plan}
use Rattle.esx_records.proofs.Alike.{places_held}
use Rattle.esx_records.proofs.Totals.{total, one_if}
use Rattle.esx_records.proofs.Pages.{bytes_most}
use Rattle.esx_records.proofs.Marks.{marks_most}
use Rattle.esx_records.proofs.Modest.{IsModest, PlansModest, at_row_modest, any_gate}
use Rattle.esx_records.proofs.Stocks.{AreStocked}

-- as many targets at most, and nothing else
record Targets (c : Config) (targets : ℕ) (changes : List Change) : Type 0 where
  bytes : total bytes_held changes ≡ 0
  pages : total (bytes_most c) changes ≡ 0
  rows : total (one_if is_row) changes ≡ 0
  marks : total marks_held changes ≡ 0
  turned : total marks_most changes ≡ 0
  targets_most : total (one_if is_target) changes ≤ targets
  machines : total places_held changes ≡ 0

no_targets : (c : Config) (n : ℕ) → Targets c n []
no_targets c n = record { bytes = refl; pages = refl; rows = refl; marks = refl; turned = refl; targets_most = omega arith; machines = refl }

targets_modest : (c : Config) (n : ℕ) (changes : List Change) → Targets c n changes → n ≤ VM_NUMBERS → IsModest c 0 changes
targets_modest c n changes t few =
    let b = t.bytes in let p = t.pages in let r = t.rows in let m = t.marks in let u = t.turned in let a = t.targets_most in let v = t.machines in
    record { bytes = omega (arith, b); pages = omega (arith, p); rows = omega (arith, r); marks = omega (arith, m); turned = omega (arith, u); targets = omega (arith, a, few); machines = omega (arith, v) }

all_to_max : (c : Config) (n : ℕ) (vms : List (Option VmRow)) → Targets c (length vms) (numbered to_max n vms)
all_to_max c n [] = no_targets c 0
all_to_max c n (None ∷ vms) =
    let t = all_to_max c (n + 1) vms in
    let a = t.targets_most in
    record { bytes = t.bytes; pages = t.pages; rows = t.rows; marks = t.marks; turned = t.turned; targets_most = omega (arith, a); machines = t.machines }
all_to_max c n (Some v ∷ vms) =
    let t = all_to_max c (n + 1) vms in
    let b = t.bytes in let p = t.pages in let r = t.rows in let m = t.marks in let u = t.turned in let a = t.targets_most in let w = t.machines in
    record { bytes = omega (arith, b); pages = omega (arith, p); rows = omega (arith, r); marks = omega (arith, m); turned = omega (arith, u); targets_most = omega (arith, a); machines = omega (arith, w) }

shared_out : (c : Config) (rows : List Row) (targets : List ℕ) → Targets c (length rows) (to_targets rows targets)
shared_out c [] targets = no_targets c 0
shared_out c (row ∷ rows) [] = no_targets c (length (row ∷ rows))
shared_out c (row ∷ rows) (target ∷ targets) =
    let t = shared_out c rows targets in
    let b = t.bytes in let p = t.pages in let r = t.rows in let m = t.marks in let u = t.turned in let a = t.targets_most in let w = t.machines in
    record { bytes = omega (arith, b); pages = omega (arith, p); rows = omega (arith, r); marks = omega (arith, m); turned = omega (arith, u); targets_most = omega (arith, a); machines = omega (arith, w) }

row_count : (tau n : ℕ) (vms : List (Option VmRow)) → length (numbered (ratio_row tau least_of) n vms) ≤ length vms
row_count tau n [] = omega arith
row_count tau n (None ∷ vms) = (let rest = row_count tau (n + 1) vms in omega (arith, rest))
row_count tau n (Some v ∷ vms) = (let rest = row_count tau (n + 1) vms in omega (arith, rest))

share_out_modest : (c : Config) (t : Tables) → AreStocked c t → PlansModest c 0 (share_out_plan c t)
share_out_modest c t s =
    let rows = ratio_rows least_of t in
    let targets = targets_of rows (wanted c t) in
    let many = row_count t.tau 0 t.vms in
    let places = s.places in
    targets_modest c (length rows) (to_targets rows targets) (shared_out c rows targets) (omega (arith, many, places))

pub rebalance_small : (c : Config) (t : Tables) (level : Level) → AreStocked c t → PlansModest c 0 (rebalance_plan c t level)
unfolding rebalance_plan
rebalance_small c t High s = (let places = s.places in targets_modest c (length t.vms) (numbered to_max 0 t.vms) (all_to_max c 0 t.vms) (omega (arith, places)))
rebalance_small c t Soft s = share_out_modest c t s
rebalance_small c t Hard s = share_out_modest c t s
rebalance_small c t Low s = share_out_modest c t s

pub tax_small : (c : Config) (tau : ℕ) → PlansModest c 0 (tax_plan tau)
unfolding tax_plan
tax_small c tau = any_gate c 0 (tax_gate tau) _
    (record { bytes = omega arith; pages = omega arith; rows = omega arith; marks = omega arith; turned = omega arith; targets = omega arith; machines = omega arith })

pub vm_tax_small : (c : Config) (t : Tables) (n tau : ℕ) → PlansModest c 0 (vm_tax_plan t n tau)
unfolding vm_tax_plan
vm_tax_small c t n tau = at_row_modest c 0 (row_at t n) _ (λ v there. any_gate c 0 (tax_gate tau) _
    (record { bytes = omega arith; pages = omega arith; rows = omega arith; marks = omega arith; turned = omega arith; targets = omega arith; machines = omega arith }))

pub shares_small : (c : Config) (t : Tables) (n shares : ℕ) → PlansModest c 0 (shares_plan t n shares)
unfolding shares_plan
shares_small c t n shares = at_row_modest c 0 (row_at t n) _ (λ v there. any_gate c 0 (shares_gate shares) _
    (record { bytes = omega arith; pages = omega arith; rows = omega arith; marks = omega arith; turned = omega arith; targets = omega arith; machines = omega arith }))
