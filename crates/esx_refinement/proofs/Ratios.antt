-- The rows that targets are made from.
use Rattle.std.proofs.Common.{◌≡◌, ℕ, ◌+◌, List, [], ◌∷◌, length, map, count_by, refl, ap, ◌∙◌, Option, Some, None}
use Rattle.std.specs.Option.{option_map}
use Rattle.std.proofs.lemmas.List.{length-map}
use Rattle.esx_types.specs.declared.config.Config.{Config}
use Rattle.esx_formulas.specs.declared.activity.Estimate.{Estimate}
use Rattle.esx_formulas.specs.declared.activity.Period.{Period}
use Rattle.esx_formulas.specs.declared.targets.Row.{Row}
use Rattle.esx_formulas.specs.Average.{slow_average, fast_average, is_touched, so_far, active_share}
use Rattle.esx_model.specs.declared.book.Mark.{Mark}
use Rattle.esx_model.specs.declared.book.VmRow.{VmRow}
use Rattle.esx_model.specs.declared.look.Standing.{Standing}
use Rattle.esx_model.specs.declared.scene.Vm.{Vm}
use Rattle.esx_model.specs.declared.scene.Site.{Site}
use Rattle.esx_model.specs.Show.{period_row}
use Rattle.esx_model.specs.Readings.{active_now, period_so_far}
use Rattle.esx_model.specs.Tables.{vm_table, tables_of}
use Rattle.esx_model.specs.event.Rebalancing.{active, row_of_vm, rows_from, rows_of}
use Rattle.esx_model.proofs.Callers.{counts_same}
use Rattle.esx_plans.specs.plan.Ratios.{numbered, ratio_row, ratio_rows}
use Rattle.esx_refinement.proofs.Refining.{standing_shown}

pub told_shown : (p : Period) → period_so_far (period_row p) ≡ so_far p
told_shown p =
    let mark : ℕ → Mark = λ page. record { page = page; touched = is_touched p page } in
    ap (λ (n : ℕ). let e : Estimate = record { touched = n; pages = length (map mark p.pages) } in e) (counts_same (λ (m : Mark). m.touched) (is_touched p) mark (λ page. refl) p.pages)
    ∙ ap (λ (n : ℕ). let e : Estimate = record { touched = count_by (is_touched p) p.pages; pages = n } in e) (length-map p.pages mark)

open_shown : (o : Option Period) → option_map period_so_far (option_map period_row o) ≡ option_map so_far o
open_shown None = refl
open_shown (Some p) = ap (λ (e : Estimate). Some e) (told_shown p)

pub active_shown : (v : Vm) → active_now (vm_table v) ≡ active v
active_shown v = ap (λ (o : Option Estimate). active_share (slow_average v.closed) (fast_average v.closed) o) (open_shown v.period)

module _ (tau : ℕ) (floor : VmRow → ℕ) (own : Vm → ℕ) (same : (v : Vm) → floor (vm_table v) ≡ own v) where
  row_shown : (n : ℕ) (v : Vm) → ratio_row tau floor n (vm_table v) ≡ row_of_vm tau n (own v) v
  row_shown n v =
      ap (λ (k : ℕ). record (ratio_row tau floor n (vm_table v)) { pages = k }) (ap (λ (m : Standing). m.resident) (standing_shown v))
      ∙ ap (λ (k : ℕ). record (row_of_vm tau n (own v) v) { floor = k; active = active_now (vm_table v) }) (same v)
      ∙ ap (λ (k : ℕ). record (row_of_vm tau n (own v) v) { active = k }) (active_shown v)

  numbered_shown : (n : ℕ) (vms : List (Option Vm)) → numbered (ratio_row tau floor) n (map (option_map vm_table) vms) ≡ rows_from tau own n vms
  numbered_shown n [] = refl
  numbered_shown n (None ∷ vms) = numbered_shown (n + 1) vms
  numbered_shown n (Some v ∷ vms) =
      ap (λ (row : Row). row ∷ numbered (ratio_row tau floor) (n + 1) (map (option_map vm_table) vms)) (row_shown n v)
      ∙ ap (λ (rows : List Row). row_of_vm tau n (own v) v ∷ rows) (numbered_shown (n + 1) vms)

-- the rows of tables are those of the site
pub rows_shown : (floor : VmRow → ℕ) (own : Vm → ℕ) → ((v : Vm) → floor (vm_table v) ≡ own v) → (c : Config) (s : Site) → ratio_rows floor (tables_of c s) ≡ rows_of own s
unfolding rows_of
rows_shown floor own same c s = numbered_shown s.tau floor own same 0 s.vms
