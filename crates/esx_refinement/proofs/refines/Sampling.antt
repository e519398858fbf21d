-- A sample period opens.
use Rattle.std.proofs.Common.{◌≡◌, ℕ, ◌%◌, Bool, false, List, [], ◌∷◌, length, map, refl, ap, ◌∙◌, Option, Some, None}
use Rattle.std.specs.Prelude.{is_some}
use Rattle.std.specs.Option.{option_map}
use Rattle.esx_types.specs.declared.config.Config.{Config}
use Rattle.esx_events.specs.declared.event.Answer.TheVariants.{Opened}
use Rattle.esx_formulas.specs.declared.activity.Period.{Period as ModelPeriod}
use Rattle.esx_model.specs.declared.scene.Vm.{Vm}
use Rattle.esx_model.specs.declared.scene.Site.{Site}
use Rattle.esx_model.specs.declared.book.Mark.{Mark}
use Rattle.esx_model.specs.declared.book.PeriodRow.{PeriodRow}
use Rattle.esx_model.specs.Site.{with_vm}
use Rattle.esx_model.specs.Show.{period_row}
use Rattle.esx_model.specs.Moved.{put_vm}
use Rattle.esx_model.specs.Tables.{vm_table, standing_of, tables_of}
use Rattle.esx_model.specs.declared.look.Standing.{Standing}
use Rattle.esx_model.specs.event.Outcome.{standing}
use Rattle.esx_model.specs.event.Sampling.{sample_gate, opened_period, sample}
use Rattle.esx_model.proofs.Callers.{row_only_shown}
use Rattle.esx_tables.specs.declared.change.VmPart.TheVariants.{Period}
use Rattle.esx_refinement.specs.Refinement.{Refines}
use Rattle.esx_plans.specs.plan.Sampling.{drawn, opened_row, sample_plan}
use Rattle.esx_refinement.proofs.Refining.{row_is, needs_vm, passes_same, standing_shown, makes_shown}
use Rattle.esx_refinement.proofs.Made.{parts_made}

-- no page is accessed yet
all_drawn : (max : ℕ) (words : List ℕ) → map (λ page. let m : Mark = record { page = page; touched = false } in m) (map (λ w. w % max) words) ≡ map (drawn max) words
all_drawn max [] = refl
all_drawn max (w ∷ words) = ap (λ (ms : List Mark). drawn max w ∷ ms) (all_drawn max words)

opened_shown : (max len : ℕ) (words : List ℕ) → period_row (opened_period max len words) ≡ opened_row max len words
opened_shown max len words = ap (λ (ms : List Mark). let p : PeriodRow = record { length = len; done = 0; marks = ms } in p) (all_drawn max words)

open_same : (o : Option ModelPeriod) → is_some (option_map period_row o) ≡ is_some o
open_same None = refl
open_same (Some p) = refl

gate_same : (v : Vm) (count len : ℕ) → sample_gate (standing_of (vm_table v)) count len (is_some (vm_table v).period) ≡ sample_gate (standing v) count len (is_some v.period)
gate_same v count len =
    ap (λ (m : Standing). sample_gate m count len (is_some (vm_table v).period)) (standing_shown v)
    ∙ ap (λ (open_now : Bool). sample_gate (standing v) count len open_now) (open_same v.period)

pub sample_refines : (c : Config) (s : Site) (n len : ℕ) (words : List ℕ) → Refines c s (sample_plan (tables_of c s) n len words) (sample s n len words)
unfolding sample sample_plan
sample_refines c s n len words = needs_vm c s n _ _ (λ v there. passes_same c s _ _ _ _ (gate_same v (length words) len) (λ pass.
    let w : Vm = record v { period = Some (opened_period v.spec.max len words) } in
    makes_shown c s (Opened len (length words)) _ (with_vm s n w) _
    (parts_made (tables_of c s) n (vm_table v) (Period (Some (opened_row v.spec.max len words)) ∷ []) (row_is c s n v there))
    (row_only_shown c s n v w there refl refl
    ∙ ap (λ (p : PeriodRow). put_vm (tables_of c s) n (Some (record (vm_table v) { period = Some p }))) (opened_shown v.spec.max len words))))
