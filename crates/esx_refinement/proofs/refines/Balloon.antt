-- The balloon: what a driver asks, lends and takes back, or the reset that is due.
use Rattle.std.proofs.Common.{◌≡◌, ℕ, ◌+◌, ◌≤◌, [], ◌∷◌, refl, ap, ◌∙◌, Bool, true, false, cond, Some, Ok, arith}
use Rattle.esx_types.specs.declared.config.Config.{Config}
use Rattle.esx_types.specs.declared.table.MapRow.{MapRow}
use Rattle.esx_types.specs.Pages as rows
use Rattle.esx_events.specs.declared.event.Answer.TheVariants.{Reset}
use Rattle.esx_model.specs.declared.look.Standing.{Standing}
use Rattle.esx_model.specs.declared.scene.Place.{Place}
use Rattle.esx_model.specs.declared.scene.Place.TheVariants.{Untouched, Here, Out, Lent}
use Rattle.esx_model.specs.declared.scene.Vm.{Vm}
use Rattle.esx_model.specs.declared.scene.Site.{Site}
use Rattle.esx_model.specs.Places.{is_lent_in}
use Rattle.esx_model.specs.Site.{vm_at, with_vm, place_at}
use Rattle.esx_model.specs.Tables.{raw_place, vm_table, standing_of, tables_of}
use Rattle.esx_model.specs.event.Outcome.{Outcome, standing, running_gate, page_gate}
use Rattle.esx_model.specs.event.Balloon as event
use Rattle.esx_model.specs.sound.Sound.{IsSound}
use Rattle.esx_model.proofs.Callers.{row_only_shown, room_nowhere, room_lent, not_not, runs}
use Rattle.esx_tables.specs.declared.change.VmPart.TheVariants.{Facts}
use Rattle.esx_tables.specs.Machines.{facts_of}
use Rattle.esx_tables.specs.Changes.{exchanged}
use Rattle.esx_changes.specs.Planned.{Planned}
use Rattle.esx_refinement.specs.Refinement.{Refines}
use Rattle.esx_plans.specs.plan.Balloon.{is_lent_now, reset_changes, unless_due, goal_told, ask_plan, lent_told, lend_plan, taken_back, take_back_plan}
use Rattle.esx_refinement.proofs.Refining.{row_is, needs_vm, passes_same, standing_shown, page_row, makes_shown}
use Rattle.esx_refinement.proofs.Made.{parts_made}
use Rattle.esx_refinement.proofs.Leaves.{below_max, past_start, page_leaves_made}

-- A reset that is due.

reset_refines : (c : Config) (s : Site) (n : ℕ) (v : Vm) → vm_at s n ≡ Some v
    → Refines c s (Ok (Reset (v.epoch + 1), reset_changes n (vm_table v))) (Ok (Reset (v.epoch + 1), with_vm s n (record v { epoch = v.epoch + 1; due = false })))
reset_refines c s n v there =
    let w : Vm = record v { epoch = v.epoch + 1; due = false } in
    makes_shown c s (Reset (v.epoch + 1)) (reset_changes n (vm_table v)) (with_vm s n w) _
    (parts_made (tables_of c s) n (vm_table v) (Facts (record (facts_of (vm_table v)) { epoch = v.epoch + 1; due = false }) ∷ []) (row_is c s n v there))
    (row_only_shown c s n v w there refl refl)

due_same : (c : Config) (s : Site) (n : ℕ) (v : Vm) (p : Planned) (o : Outcome) → vm_at s n ≡ Some v → Refines c s p o → Refines c s (unless_due n (vm_table v) p) (event.unless_due s n v o)
due_same c s n v p o there else_refines = of v.due
  where
    of : (b : Bool) → Refines c s (cond b (Ok (Reset (v.epoch + 1), reset_changes n (vm_table v))) p) (cond b (Ok (Reset (v.epoch + 1), with_vm s n (record v { epoch = v.epoch + 1; due = false }))) o)
    of true = reset_refines c s n v there
    of false = else_refines

-- What is asked.

pub ask_refines : (c : Config) (s : Site) (n : ℕ) → Refines c s (ask_plan (tables_of c s) n) (event.ask s n)
unfolding event.ask ask_plan exchanged
ask_refines c s n = needs_vm c s n _ _ (λ v there. passes_same c s _ _ _ _ (ap running_gate (standing_shown v)) (λ pass.
    due_same c s n v _ _ there (ap (λ (m : Standing). goal_told m v.epoch) (standing_shown v), refl)))

-- A loan.

same_lent : (e : ℕ) (p : Place) → rows.is_lent_in e (raw_place p) ≡ is_lent_in e p
same_lent e Untouched = refl
same_lent e (Here bytes f shared) = refl
same_lent e (Out bytes i) = refl
same_lent e (Lent epoch) = refl

lent_now_same : (v : Vm) (page : ℕ) → is_lent_now (vm_table v) page ≡ event.is_lent v page
lent_now_same v page = ap (λ (row : MapRow). rows.is_lent_in v.epoch row) (page_row v page) ∙ same_lent v.epoch (place_at v page)

page_gate_same : (v : Vm) (page : ℕ) → page_gate (standing_of (vm_table v)) page ≡ page_gate (standing v) page
page_gate_same v page = ap (λ (m : Standing). page_gate m page) (standing_shown v)

lend_gate_same : (v : Vm) (page : ℕ) → event.lend_gate (is_lent_now (vm_table v) page) (standing_of (vm_table v)) ≡ event.lend_gate (event.is_lent v page) (standing v)
lend_gate_same v page =
    ap (λ (m : Standing). event.lend_gate (is_lent_now (vm_table v) page) m) (standing_shown v) ∙ ap (λ (b : Bool). event.lend_gate b (standing v)) (lent_now_same v page)

pub lend_refines : (c : Config) (s : Site) (n page : ℕ) → IsSound c s → Refines c s (lend_plan (tables_of c s) n page) (event.lend s n page)
unfolding event.lend lend_plan
lend_refines c s n page sound = needs_vm c s n _ _ (λ v there. passes_same c s _ _ _ _ (page_gate_same v page) (λ pass.
    due_same c s n v _ _ there (passes_same c s _ _ _ _ (lend_gate_same v page) (λ passed.
    let same : v.epoch ≤ v.epoch = omega arith in (
      ap lent_told (standing_shown v),
      page_leaves_made c s n page v (Lent v.epoch) sound there (below_max v.spec.max page pass.1.0) (past_start v (runs v.state (not_not _ pass.0))) same (room_lent c s (place_at v page) v.epoch) refl (λ t. refl),
    )))))

-- A loan that ends.

pub take_back_refines : (c : Config) (s : Site) (n page : ℕ) → IsSound c s → Refines c s (take_back_plan (tables_of c s) n page) (event.take_back s n page)
unfolding event.take_back take_back_plan
take_back_refines c s n page sound = needs_vm c s n _ _ (λ v there. passes_same c s _ _ _ _ (page_gate_same v page) (λ pass.
    due_same c s n v _ _ there (passes_same c s _ _ _ _ (ap event.take_back_gate (lent_now_same v page)) (λ passed. (
      ap taken_back (standing_shown v),
      page_leaves_made c s n page v Untouched sound there (below_max v.spec.max page pass.1.0) (past_start v (runs v.state (not_not _ pass.0))) tt (room_nowhere c s (place_at v page)) refl (λ t. refl),
    )))))
