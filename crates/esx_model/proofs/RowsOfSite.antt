-- The rows that targets are made from, of a sound site, are rows in order.
use Rattle.std.proofs.Common.{zero, suc, ◌≡◌, ℕ, ◌+◌, ◌≤◌, ◌<◌, List, [], ◌∷◌, length, get_or, refl, arith, Option, Some, None}
use Rattle.std.specs.Option.{option_map}
use Rattle.std.specs.List.{fold, AllByRecursion}
use Rattle.std.proofs.lemmas.List.Sums.{count_by-le-length}
use Rattle.esx_types.specs.declared.config.Config.{Config}
use Rattle.esx_types.specs.declared.config.TheConstants.{MAX_PAGES, MAX_TAU, VM_NUMBERS}
use Rattle.esx_formulas.specs.declared.activity.Estimate.{Estimate}
use Rattle.esx_formulas.specs.declared.activity.Period.{Period}
use Rattle.esx_formulas.specs.declared.activity.TheConstants.{WHOLE}
use Rattle.esx_formulas.specs.Average.{touched_share, slower, faster, slow_average, fast_average, is_touched, so_far, open_average}
use Rattle.esx_formulas.specs.Estimates.{IsEstimate}
use Rattle.esx_formulas.specs.Ratio.{IsRow, AreRows, row_at}
use Rattle.esx_formulas.proofs.RatioLaws.{tax_most}
use Rattle.esx_formulas.proofs.Revoking.{worked_out, only_worked_out}
use Rattle.esx_model.specs.declared.scene.Vm.{Vm}
use Rattle.esx_model.specs.declared.scene.Site.{Site}
use Rattle.esx_model.specs.Places.{is_here}
use Rattle.esx_model.specs.Site.{resident}
use Rattle.esx_model.specs.event.Rebalancing.{active, row_of_vm, rows_from, rows_of, min_of}
use Rattle.esx_model.specs.sound.Machines.{IsVm, IsPeriodOrNone}
use Rattle.esx_model.specs.sound.Sound.{IsSound}
use Rattle.esx_model.specs.Laws.{HasOneListOfTargets}

-- Averages are shares.

share_most : (e : Estimate) → IsEstimate e → touched_share e ≤ WHOLE
share_most e h = grind (arith)

slow_most : (closed : List Estimate) (slow : ℕ) → slow ≤ WHOLE → AllByRecursion IsEstimate closed → fold (λ slow e. slower slow (touched_share e)) slow closed ≤ WHOLE
slow_most [] slow low h = low
slow_most (e ∷ closed) slow low h = (let x = share_most e h.0 in slow_most closed (slower slow (touched_share e)) (omega (arith, x, low)) h.1)

fast_most : (closed : List Estimate) (fast : ℕ) → fast ≤ WHOLE → AllByRecursion IsEstimate closed → fold (λ fast e. faster fast (touched_share e)) fast closed ≤ WHOLE
fast_most [] fast low h = low
fast_most (e ∷ closed) fast low h = (let x = share_most e h.0 in fast_most closed (faster fast (touched_share e)) (omega (arith, x, low)) h.1)

pub slow_is_share : (closed : List Estimate) → AllByRecursion IsEstimate closed → slow_average closed ≤ WHOLE
unfolding slow_average
slow_is_share closed h = slow_most closed WHOLE (omega arith) h

pub fast_is_share : (closed : List Estimate) → AllByRecursion IsEstimate closed → fast_average closed ≤ WHOLE
unfolding fast_average
fast_is_share closed h = fast_most closed WHOLE (omega arith) h

open_most : (spec_max fast : ℕ) (o : Option Period) → fast ≤ WHOLE → IsPeriodOrNone spec_max o → open_average fast (option_map so_far o) ≤ WHOLE
open_most m fast None low period = low
open_most m fast (Some p) low period =
    let touched = count_by-le-length (is_touched p) p.pages in
    let fine : IsEstimate (so_far p) = record { touched = touched; least_pages = period.least_pages; most_pages = period.most_pages } in
    let x = share_most (so_far p) fine in
    omega (arith, x, low)

pub active_is_share : (c : Config) (v : Vm) → IsVm c v → active v ≤ WHOLE
active_is_share c v fine =
    let slow = slow_is_share v.closed fine.closed in
    let fast = fast_is_share v.closed fine.closed in
    let now = open_most v.spec.max (fast_average v.closed) v.period fast fine.period in
    omega (arith, slow, fast, now)

pub resident_most : (c : Config) (v : Vm) → IsVm c v → resident v ≤ v.spec.max
resident_most c v fine = (let few = count_by-le-length is_here v.places in omega (arith, few, fine.pages))

-- The rows.

row_fine : (c : Config) (tau : ℕ) (floor : Vm → ℕ) (n : ℕ) (v : Vm) → tau ≤ MAX_TAU → IsVm c v → n < VM_NUMBERS → floor v ≤ MAX_PAGES → IsRow (row_of_vm tau n (floor v) v)
row_fine c tau floor n v tax fine low least = record {
  vm = low;
  least_shares = fine.good.least_shares;
  most_shares = fine.good.most_shares;
  most_pages = (let most = resident_most c v fine in omega (arith, most, fine.good.most_max));
  most_floor = least;
  most_active = active_is_share c v fine;
  most_tau = tax_most tau v.spec.tau tax fine.good.most_tau;
}

rows_fine : (c : Config) (tau : ℕ) (floor : Vm → ℕ) (n : ℕ) (vms : List (Option Vm)) → tau ≤ MAX_TAU → ((k : ℕ) (v : Vm) → get_or vms k None ≡ Some v → IsVm c v × (floor v ≤ MAX_PAGES)) → n + length vms ≤ VM_NUMBERS
    → (i : ℕ) → i < length (rows_from tau floor n vms) → IsRow (row_at (rows_from tau floor n vms) i)
rows_fine c tau floor n [] tax each low i below = absurd (omega arith)
rows_fine c tau floor n (None ∷ os) tax each low i below = rows_fine c tau floor (n + 1) os tax (λ k v h. each (suc k) v h) (omega (arith, low)) i below
rows_fine c tau floor n (Some v ∷ os) tax each low zero below = (let known = each zero v refl in row_fine c tau floor n v tax known.0 (omega (arith, low)) known.1)
rows_fine c tau floor n (Some v ∷ os) tax each low (suc i) below = rows_fine c tau floor (n + 1) os tax (λ k v h. each (suc k) v h) (omega (arith, low)) i (omega (arith, below))

rows_least : (tau : ℕ) (floor : Vm → ℕ) (n : ℕ) (vms : List (Option Vm)) (i : ℕ) → i < length (rows_from tau floor n vms) → n ≤ (row_at (rows_from tau floor n vms) i).vm
rows_least tau floor n [] i below = absurd (omega arith)
rows_least tau floor n (None ∷ os) i below = (let rest = rows_least tau floor (n + 1) os i below in omega (arith, rest))
rows_least tau floor n (Some v ∷ os) zero below = omega arith
rows_least tau floor n (Some v ∷ os) (suc i) below = (let rest = rows_least tau floor (n + 1) os i (omega (arith, below)) in omega (arith, rest))

rows_ordered : (tau : ℕ) (floor : Vm → ℕ) (n : ℕ) (vms : List (Option Vm)) (i j : ℕ) → i < j → j < length (rows_from tau floor n vms) → (row_at (rows_from tau floor n vms) i).vm < (row_at (rows_from tau floor n vms) j).vm
rows_ordered tau floor n [] i j less below = absurd (omega arith)
rows_ordered tau floor n (None ∷ os) i j less below = rows_ordered tau floor (n + 1) os i j less below
rows_ordered tau floor n (Some v ∷ os) i zero less below = absurd (omega arith)
rows_ordered tau floor n (Some v ∷ os) zero (suc j) less below = (let rest = rows_least tau floor (n + 1) os j (omega (arith, below)) in omega (arith, rest))
rows_ordered tau floor n (Some v ∷ os) (suc i) (suc j) less below = rows_ordered tau floor (n + 1) os i j (omega (arith, less)) (omega (arith, below))

-- the rows of a sound site
pub rows_of_sound : (c : Config) (s : Site) (floor : Vm → ℕ) → IsSound c s → ((v : Vm) → IsVm c v → floor v ≤ MAX_PAGES) → AreRows (rows_of floor s)
unfolding rows_of
rows_of_sound c s floor sound least = record {
  each = rows_fine c s.tau floor 0 s.vms sound.tau (λ k v h. (sound.each k v h, least v (sound.each k v h))) (omega (arith, sound.vms));
  ordered = rows_ordered s.tau floor 0 s.vms;
}

pub site_targets : (c : Config) (s : Site) (need : ℕ) → IsSound c s → HasOneListOfTargets s need
site_targets c s need sound =
    let rows = rows_of_sound c s min_of sound (λ v fine. omega (arith, fine.good.min_max, fine.good.most_max)) in
    record {
      rows = rows;
      one = λ targets. (only_worked_out (rows_of min_of s) rows need targets, λ e. rw e (worked_out (rows_of min_of s) rows need));
    }
