-- The plans of new targets, of the idle memory tax and of a machine's tax and shares.
use Rattle.std.specs.Prelude.{ℕ, ◌+◌, ◌-◌, min, List, [], ◌∷◌, map, sum_by, count_by, Some, Ok}
use Rattle.std.specs.List.{zip}
use Rattle.esx_types.specs.declared.config.Config.{Config}
use Rattle.esx_types.specs.declared.level.Level.{Level}
use Rattle.esx_types.specs.declared.level.Level.TheVariants.{High, Soft, Hard, Low}
use Rattle.esx_types.specs.Frames.{is_free}
use Rattle.esx_events.specs.declared.event.Answer.TheVariants as answers
use Rattle.esx_formulas.specs.declared.targets.Row.{Row}
use Rattle.esx_formulas.specs.Level.{high_threshold, margin}
use Rattle.esx_formulas.specs.Targets.{spare, targets_of}
use Rattle.esx_model.specs.declared.book.VmRow.{VmRow}
use Rattle.esx_model.specs.declared.tables.Tables.{Tables}
use Rattle.esx_model.specs.event.Outcome.{unless}
use Rattle.esx_model.specs.event.Rebalancing.{tax_gate, shares_gate}
use Rattle.esx_tables.specs.declared.change.Change.{Change}
use Rattle.esx_tables.specs.declared.change.Change.TheVariants.{OfVm, TaxIs}
use Rattle.esx_tables.specs.declared.change.VmPart.TheVariants.{Facts, Target}
use Rattle.esx_tables.specs.Machines.{facts_of}
use Rattle.esx_tables.specs.Readings.{row_at}
use Rattle.esx_changes.specs.Planned.{Planned, at_row}
use Rattle.esx_plans.specs.plan.Ratios.{numbered, ratio_rows, least_of}

-- a machine has all it asked for
abbrev pub to_max : ℕ → VmRow → Change
to_max n v = OfVm n (Target v.spec.max)

-- the machines of rows have new targets, in order
abbrev pub to_target : Row × ℕ → Change
to_target p = OfVm p.0.vm (Target p.1)

abbrev pub to_targets : List Row → List ℕ → List Change
to_targets rows targets = map to_target (zip rows targets)

-- how many frames are wanted until nothing has to be reclaimed
abbrev pub wanted : Config → Tables → ℕ
wanted c t = high_threshold c + margin c - count_by is_free t.frames

abbrev pub share_out_plan : Config → Tables → Planned
share_out_plan c t = Ok (
  answers.Rebalanced (wanted c t) (min (wanted c t) (sum_by spare (ratio_rows least_of t))),
  to_targets (ratio_rows least_of t) (targets_of (ratio_rows least_of t) (wanted c t)),
)

unfoldable pub rebalance_plan : Config → Tables → Level → Planned
rebalance_plan c t High = Ok (answers.Rebalanced 0 0, numbered to_max 0 t.vms)
rebalance_plan c t Soft = share_out_plan c t
rebalance_plan c t Hard = share_out_plan c t
rebalance_plan c t Low = share_out_plan c t

unfoldable pub tax_plan : ℕ → Planned
tax_plan tau = unless (tax_gate tau) (Ok (answers.Done, TaxIs tau ∷ []))

-- a machine has a tax of its own from now on
unfoldable pub vm_tax_plan : Tables → ℕ → ℕ → Planned
vm_tax_plan t n tau = at_row (row_at t n) (λ v. unless (tax_gate tau) (Ok (answers.Done, OfVm n (Facts (record (facts_of v) { tau = Some tau })) ∷ [])))

unfoldable pub shares_plan : Tables → ℕ → ℕ → Planned
shares_plan t n shares = at_row (row_at t n) (λ v. unless (shares_gate shares) (Ok (answers.Done, OfVm n (Facts (record (facts_of v) { shares = shares })) ∷ [])))
