-- Targets, and what they are made from (Waldspurger, "Share-Based Allocation", "Reclaiming Idle Memory", "Dynamic Reallocation").
use Rattle.std.specs.Prelude.{ℕ, ◌+◌, ◌-◌, nat_le, ◌&&◌, min, List, [], ◌∷◌, map, Option, Some, None, option_map, sum_by, Ok, not, nat_lt}
use Rattle.esx_types.specs.declared.config.Config.{Config}
use Rattle.esx_types.specs.declared.config.TheConstants.{MAX_SHARES, MAX_TAU}
use Rattle.esx_types.specs.declared.level.Level.{Level}
use Rattle.esx_types.specs.declared.level.Level.TheVariants.{High, Soft, Hard, Low}
use Rattle.esx_events.specs.declared.event.Answer.TheVariants as answers
use Rattle.esx_events.specs.declared.event.Refusal.TheVariants.{BadSpec}
use Rattle.esx_model.specs.declared.scene.Vm.{Vm}
use Rattle.esx_model.specs.declared.scene.Site.{Site}
use Rattle.esx_formulas.specs.declared.targets.Row.{Row}
use Rattle.esx_formulas.specs.Average.{slow_average, fast_average, so_far, active_share}
use Rattle.esx_formulas.specs.Level.{high_threshold, margin}
use Rattle.esx_formulas.specs.Ratio.{tax_of}
use Rattle.esx_formulas.specs.Targets.{spare, targets_of}
use Rattle.esx_model.specs.Site.{free_count, vm_at, with_vm, resident}
use Rattle.esx_model.specs.event.Outcome.{Outcome, Gate, at_vm, unless}

-- the active share of a machine's memory at present
abbrev pub active : Vm → ℕ
active v = active_share (slow_average v.closed) (fast_average v.closed) (option_map so_far v.period)

-- what a machine has, where the site has that tax, of which it keeps so many pages in any case
abbrev pub row_of_vm : ℕ → ℕ → ℕ → Vm → Row
row_of_vm tau n floor v = record { vm = n; shares = v.spec.shares; pages = resident v; floor = floor; active = active v; tau = tax_of tau v.spec.tau }

-- a row for each machine from number n on, each with its floor
abbrev pub rows_from : ℕ → (Vm → ℕ) → ℕ → List (Option Vm) → List Row
rows_from tau floor n [] = []
rows_from tau floor n (None ∷ vms) = rows_from tau floor (n + 1) vms
rows_from tau floor n (Some v ∷ vms) = row_of_vm tau n (floor v) v ∷ rows_from tau floor (n + 1) vms

unfoldable pub rows_of : (Vm → ℕ) → Site → List Row
rows_of floor s = rows_from s.tau floor 0 s.vms

abbrev pub min_of : Vm → ℕ
min_of v = v.spec.min

-- the machines with new targets, in order
abbrev pub with_targets : List (Option Vm) → List ℕ → List (Option Vm)
with_targets [] targets = []
with_targets (None ∷ vms) targets = None ∷ with_targets vms targets
with_targets (Some v ∷ vms) [] = Some v ∷ with_targets vms []
with_targets (Some v ∷ vms) (t ∷ targets) = Some (record v { target = t }) ∷ with_targets vms targets

-- a machine that has all it asked for
abbrev pub at_max : Vm → Vm
at_max v = record v { target = v.spec.max }

-- how many frames are wanted until nothing has to be reclaimed
abbrev pub need : Config → Site → ℕ
need c s = high_threshold c + margin c - free_count c.frames s

abbrev pub share_out : Config → Site → Outcome
share_out c s = Ok (
  answers.Rebalanced (need c s) (min (need c s) (sum_by spare (rows_of min_of s))),
  record s { vms = with_targets s.vms (targets_of (rows_of min_of s) (need c s)) },
)

unfoldable pub rebalance : Config → Site → Level → Outcome
rebalance c s High = Ok (answers.Rebalanced 0 0, record s { vms = map (option_map at_max) s.vms })
rebalance c s Soft = share_out c s
rebalance c s Hard = share_out c s
rebalance c s Low = share_out c s

abbrev pub shares_gate : ℕ → Gate
shares_gate shares = (not (nat_le 1 shares && nat_le shares MAX_SHARES), BadSpec) ∷ []

unfoldable pub set_shares : Site → ℕ → ℕ → Outcome
set_shares s n shares = at_vm (vm_at s n) (λ v. unless (shares_gate shares)
    (Ok (answers.Done, with_vm s n (record v { spec = record v.spec { shares = shares } }))))

abbrev pub tax_gate : ℕ → Gate
tax_gate tau = (nat_lt MAX_TAU tau, BadSpec) ∷ []

unfoldable pub set_tax : Site → ℕ → Outcome
set_tax s tau = unless (tax_gate tau) (Ok (answers.Done, record s { tau = tau }))

-- from now on a machine has a tax of its own, whatever the site's becomes
unfoldable pub set_vm_tax : Site → ℕ → ℕ → Outcome
set_vm_tax s n tau = at_vm (vm_at s n) (λ v. unless (tax_gate tau)
    (Ok (answers.Done, with_vm s n (record v { spec = record v.spec { tau = Some tau } }))))
