-- What a balloon driver asks, a loan and its end.
use Rattle.std.proofs.Common.{ℕ, ◌+◌, Bool, true, false, [], Ok, cond, arith}
use Rattle.esx_types.specs.declared.config.Config.{Config}
use Rattle.esx_types.specs.declared.table.MapRow.TheVariants.{Untouched, Lent}
use Rattle.esx_types.specs.Pages.{page_at}
use Rattle.esx_events.specs.declared.event.Answer.TheVariants as answers
use Rattle.esx_model.specs.declared.book.VmRow.{VmRow}
use Rattle.esx_model.specs.declared.tables.Tables.{Tables}
use Rattle.esx_model.specs.Tables.{standing_of}
use Rattle.esx_model.specs.event.Outcome.{unless, running_gate, page_gate}
use Rattle.esx_model.specs.event.Balloon.{lend_gate, take_back_gate}
use Rattle.esx_tables.specs.Readings.{row_at}
use Rattle.esx_changes.specs.Planned.{Planned}
use Rattle.esx_changes.specs.Leaves.{page_leaves}
use Rattle.esx_plans.specs.plan.Balloon.{is_lent_now, reset_changes, unless_due, goal_told, lent_told, taken_back, ask_plan, lend_plan, take_back_plan}
use Rattle.esx_records.proofs.Modest.{PlansModest, at_row_modest, any_gate}
use Rattle.esx_records.proofs.plans.Leaves.{leaves_modest}

due_modest : (c : Config) (n : ℕ) (v : VmRow) (p : Planned) → PlansModest c 0 p → (b : Bool) → PlansModest c 0 (cond b (Ok (answers.Reset (v.epoch + 1), reset_changes n v)) p)
due_modest c n v p h true =
    record { bytes = omega arith; pages = omega arith; rows = omega arith; marks = omega arith; turned = omega arith; targets = omega arith; machines = omega arith }
due_modest c n v p h false = h

pub ask_small : (c : Config) (t : Tables) (n : ℕ) → PlansModest c 0 (ask_plan t n)
unfolding ask_plan
ask_small c t n = at_row_modest c 0 (row_at t n) _ (λ v there. any_gate c 0 (running_gate (standing_of v)) (unless_due n v (Ok (goal_told (standing_of v) v.epoch, [])))
    (due_modest c n v (Ok (goal_told (standing_of v) v.epoch, []))
    (record { bytes = omega arith; pages = omega arith; rows = omega arith; marks = omega arith; turned = omega arith; targets = omega arith; machines = omega arith }) v.due))

pub lend_small : (c : Config) (t : Tables) (n page : ℕ) → PlansModest c 0 (lend_plan t n page)
unfolding lend_plan
lend_small c t n page = at_row_modest c 0 (row_at t n) _ (λ v there.
    let loan : Planned = Ok (lent_told (standing_of v), page_leaves t.frames n page (page_at v.pages page) (Lent v.epoch)) in
    let lends : Planned = unless (lend_gate (is_lent_now v page) (standing_of v)) loan in
    any_gate c 0 (page_gate (standing_of v) page) (unless_due n v lends)
    (due_modest c n v lends (any_gate c 0 (lend_gate (is_lent_now v page) (standing_of v)) loan (leaves_modest c t.frames n page (page_at v.pages page) (Lent v.epoch))) v.due))

pub take_back_small : (c : Config) (t : Tables) (n page : ℕ) → PlansModest c 0 (take_back_plan t n page)
unfolding take_back_plan
take_back_small c t n page = at_row_modest c 0 (row_at t n) _ (λ v there.
    let back : Planned = Ok (taken_back (standing_of v), page_leaves t.frames n page (page_at v.pages page) Untouched) in
    let takes : Planned = unless (take_back_gate (is_lent_now v page)) back in
    any_gate c 0 (page_gate (standing_of v) page) (unless_due n v takes)
    (due_modest c n v takes (any_gate c 0 (take_back_gate (is_lent_now v page)) back (leaves_modest c t.frames n page (page_at v.pages page) Untouched)) v.due))
