-- New targets, the tax and the shares.
use Rattle.std.proofs.Common.{◌≡◌, ℕ, ◌+◌, ◌-◌, min, List, [], ◌∷◌, sum_by, refl, sym, ap, ◌∙◌, subst, arith, Option, Some, None, Ok}
use Rattle.std.specs.Option.{option_map}
use Rattle.std.proofs.lemmas.List.Sums.{count_by-le-length}
use Rattle.esx_types.specs.declared.config.Config.{Config}
use Rattle.esx_types.specs.declared.level.Level.{Level}
use Rattle.esx_types.specs.declared.level.Level.TheVariants.{High, Soft, Hard, Low}
use Rattle.esx_events.specs.declared.event.Answer.TheVariants.{Done, Rebalanced}
use Rattle.esx_formulas.specs.declared.activity.Estimate.{Estimate}
use Rattle.esx_formulas.specs.declared.activity.Period.{Period}
use Rattle.esx_formulas.specs.declared.targets.Row.{Row}
use Rattle.esx_formulas.specs.Average.{is_touched, so_far}
use Rattle.esx_formulas.specs.Estimates.{IsEstimate}
use Rattle.esx_formulas.specs.Level.{high_threshold, margin}
use Rattle.esx_formulas.specs.Ratio.{AreRows}
use Rattle.esx_formulas.specs.Targets.{spare, targets_of}
use Rattle.esx_model.specs.declared.scene.Vm.{Vm}
use Rattle.esx_model.specs.declared.scene.Site.{Site}
use Rattle.esx_model.specs.declared.book.VmRow.{VmRow}
use Rattle.esx_model.specs.Site.{vm_at, with_vm}
use Rattle.esx_model.specs.Show.{period_row}
use Rattle.esx_model.specs.Tables.{vm_table, tables_of}
use Rattle.esx_model.specs.event.Rebalancing.{min_of, rows_of, need, with_targets, share_out, rebalance, tax_gate, shares_gate, set_tax, set_vm_tax, set_shares}
use Rattle.esx_model.specs.sound.Machines.{IsPeriodOrNone}
use Rattle.esx_model.specs.sound.Sound.{IsSound}
use Rattle.esx_model.proofs.Callers.{row_only_shown, taxed_shown, retargeted_shown, rows_of_sound, free_rows}
use Rattle.esx_tables.specs.declared.change.Change.{Change}
use Rattle.esx_tables.specs.declared.change.Change.TheVariants.{TaxIs}
use Rattle.esx_tables.specs.Readings.{row_at}
use Rattle.esx_tables.specs.declared.change.VmPart.TheVariants.{Facts}
use Rattle.esx_tables.specs.Machines.{facts_of}
use Rattle.esx_tables.specs.Changes.{traded, exchanged}
use Rattle.esx_refinement.specs.Refinement.{Refines}
use Rattle.esx_changes.specs.Activity.{IsTold}
use Rattle.esx_plans.specs.plan.Ratios.{ratio_rows, least_of, HaveRatios}
use Rattle.esx_plans.specs.plan.Rebalancing.{wanted, share_out_plan, rebalance_plan, tax_plan, vm_tax_plan, shares_plan}
use Rattle.esx_refinement.proofs.Refining.{row_there, row_is, needs_vm, passes_gate, makes_shown}
use Rattle.esx_refinement.proofs.Made.{parts_made}
use Rattle.esx_refinement.proofs.Ratios.{told_shown, rows_shown}
use Rattle.esx_refinement.proofs.Retargeted.{targets_made, maxes, maxes_are, maxes_changed}
use Rattle.esx_refinement.proofs.refines.Admission.{has_places}

-- What targets are made from.

same_rows : (c : Config) (s : Site) → ratio_rows least_of (tables_of c s) ≡ rows_of min_of s
same_rows c s = rows_shown least_of min_of (λ v. refl) c s

same_need : (c : Config) (s : Site) → wanted c (tables_of c s) ≡ need c s
same_need c s = ap (λ (free : ℕ). high_threshold c + margin c - free) (free_rows s c.frames)

pub told_fits : (max : ℕ) (o : Option Period) → IsPeriodOrNone max o → IsTold (option_map period_row o)
told_fits max None fits = tt
told_fits max (Some p) fits =
    let touched = count_by-le-length (is_touched p) p.pages in
    let fine : IsEstimate (so_far p) = record { touched = touched; least_pages = fits.least_pages; most_pages = fits.most_pages } in
    let P : Estimate → Type 0 = IsEstimate in
    subst P (sym (told_shown p)) fine

periods_told : (c : Config) (s : Site) → IsSound c s → (n : ℕ) (row : VmRow) → row_at (tables_of c s) n ≡ Some row → IsTold row.period
periods_told c s sound n row is = of (vm_at s n) refl (sym (row_there c s n) ∙ is)
  where
    of : (o : Option Vm) → vm_at s n ≡ o → option_map vm_table o ≡ Some row → IsTold row.period
    of None there e = cc
    of (Some v) there e =
        let same : vm_table v ≡ row = cc in
        let P : VmRow → Type 0 = λ r. IsTold r.period in
        subst P same (told_fits v.spec.max v.period (sound.each n v there).period)

-- every number that a sound site's targets are made from is in its range
pub has_ratios : (c : Config) (s : Site) → IsSound c s → HaveRatios (tables_of c s)
has_ratios c s sound = record {
  places = has_places c s sound;
  rows = (let P : List Row → Type 0 = AreRows in subst P (sym (same_rows c s)) (rows_of_sound c s min_of sound (λ v fine. omega (arith, fine.good.min_max, fine.good.most_max))));
  periods = periods_told c s sound;
}

-- New targets.

shares_out : (c : Config) (s : Site) → Refines c s (share_out_plan c (tables_of c s)) (share_out c s)
shares_out c s =
    let rows : List Row = ratio_rows least_of (tables_of c s) in
    let targets : List ℕ = targets_of rows (wanted c (tables_of c s)) in
    let P : List Row → Type 0 = λ own. Refines c s (share_out_plan c (tables_of c s))
    (Ok (Rebalanced (wanted c (tables_of c s)) (min (wanted c (tables_of c s)) (sum_by spare own)), record s { vms = with_targets s.vms (targets_of own (wanted c (tables_of c s))) })) in
    let Q : ℕ → Type 0 = λ k. Refines c s (share_out_plan c (tables_of c s)) (Ok (Rebalanced k (min k (sum_by spare (rows_of min_of s))), record s { vms = with_targets s.vms (targets_of (rows_of min_of s) k) })) in
    subst Q (same_need c s) (subst P (same_rows c s)
    (refl, targets_made s.tau least_of (tables_of c s) 0 [] s.vms targets refl refl ∙ sym (retargeted_shown c s targets)))

all_to_max : (c : Config) (s : Site) → Refines c s (rebalance_plan c (tables_of c s) High) (rebalance c s High)
unfolding rebalance rebalance_plan
all_to_max c s =
    let P : List (Option Vm) → Type 0 = λ vms. Refines c s (rebalance_plan c (tables_of c s) High) (Ok (Rebalanced 0 0, record s { vms = vms })) in
    subst P (maxes_are s.vms) (
      refl,
      ap (λ (changes : List Change). (exchanged (tables_of c s) changes).0) (maxes_changed s.tau least_of 0 s.vms)
          ∙ targets_made s.tau least_of (tables_of c s) 0 [] s.vms (maxes s.vms) refl refl ∙ sym (retargeted_shown c s (maxes s.vms)),
    )

pub rebalance_refines : (c : Config) (s : Site) (level : Level) → Refines c s (rebalance_plan c (tables_of c s) level) (rebalance c s level)
unfolding rebalance rebalance_plan
rebalance_refines c s High = all_to_max c s
rebalance_refines c s Soft = shares_out c s
rebalance_refines c s Hard = shares_out c s
rebalance_refines c s Low = shares_out c s

-- The tax of the site, that of a machine, and its shares.

pub tax_refines : (c : Config) (s : Site) (tau : ℕ) → Refines c s (tax_plan tau) (set_tax s tau)
unfolding set_tax tax_plan exchanged traded
tax_refines c s tau = passes_gate c s (tax_gate tau) _ _ (λ pass. makes_shown c s Done (TaxIs tau ∷ []) (record s { tau = tau }) (record (tables_of c s) { tau = tau }) refl (taxed_shown c s tau))

pub vm_tax_refines : (c : Config) (s : Site) (n tau : ℕ) → Refines c s (vm_tax_plan (tables_of c s) n tau) (set_vm_tax s n tau)
unfolding set_vm_tax vm_tax_plan
vm_tax_refines c s n tau = needs_vm c s n _ _ (λ v there. passes_gate c s (tax_gate tau) _ _ (λ pass.
    let w : Vm = record v { spec = record v.spec { tau = Some tau } } in
    makes_shown c s Done _ (with_vm s n w) _
    (parts_made (tables_of c s) n (vm_table v) (Facts (record (facts_of (vm_table v)) { tau = Some tau }) ∷ []) (row_is c s n v there))
    (row_only_shown c s n v w there refl refl)))

pub shares_refines : (c : Config) (s : Site) (n shares : ℕ) → Refines c s (shares_plan (tables_of c s) n shares) (set_shares s n shares)
unfolding set_shares shares_plan
shares_refines c s n shares = needs_vm c s n _ _ (λ v there. passes_gate c s (shares_gate shares) _ _ (λ pass.
    let w : Vm = record v { spec = record v.spec { shares = shares } } in
    makes_shown c s Done _ (with_vm s n w) _
    (parts_made (tables_of c s) n (vm_table v) (Facts (record (facts_of (vm_table v)) { shares = shares }) ∷ []) (row_is c s n v there))
    (row_only_shown c s n v w there refl refl)))
