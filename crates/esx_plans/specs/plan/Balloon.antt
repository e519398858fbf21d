-- The plans of the balloon: a guest asks how much it is to lend, lends a page, and takes one back.
use Rattle.std.specs.Prelude.{◌≡◌, ℕ, ◌+◌, ◌-◌, ◌<◌, ◌^◌, Bool, false, List, [], ◌∷◌, Some, Ok, if◌then◌else◌}
use Rattle.esx_types.specs.declared.table.MapRow.TheVariants.{Untouched, Lent}
use Rattle.esx_types.specs.Pages.{is_lent_in, page_at}
use Rattle.esx_events.specs.declared.event.Answer.{Answer}
use Rattle.esx_events.specs.declared.event.Answer.TheVariants as answers
use Rattle.esx_model.specs.declared.book.VmRow.{VmRow}
use Rattle.esx_model.specs.declared.look.Standing.{Standing}
use Rattle.esx_model.specs.declared.tables.Tables.{Tables}
use Rattle.esx_model.specs.Tables.{standing_of}
use Rattle.esx_model.specs.event.Outcome.{unless, goal, running_gate, page_gate}
use Rattle.esx_model.specs.event.Balloon.{lend_gate, take_back_gate}
use Rattle.esx_tables.specs.declared.change.Change.{Change}
use Rattle.esx_tables.specs.declared.change.Change.TheVariants.{OfVm}
use Rattle.esx_tables.specs.declared.change.VmPart.TheVariants.{Facts}
use Rattle.esx_tables.specs.Machines.{facts_of}
use Rattle.esx_tables.specs.Readings.{row_at}
use Rattle.esx_changes.specs.Planned.{Planned, at_row}
use Rattle.esx_changes.specs.Leaves.{page_leaves}

-- each machine's epoch can rise once more in 32 bits
abbrev pub CanEpochsRise : Tables → Type 0
CanEpochsRise t = (n : ℕ) (v : VmRow) → row_at t n ≡ Some v → v.epoch + 1 < 2 ^ 32

-- the page is lent now: a loan of an epoch that is over counts for nothing
abbrev pub is_lent_now : VmRow → ℕ → Bool
is_lent_now v page = is_lent_in v.epoch (page_at v.pages page)

-- all loans are over, by one change
abbrev pub reset_changes : ℕ → VmRow → List Change
reset_changes n v = OfVm n (Facts (record (facts_of v) { epoch = v.epoch + 1; due = false })) ∷ []

-- a reset that is due takes the place of what the driver asked for
abbrev pub unless_due : ℕ → VmRow → Planned → Planned
unless_due n v p = if v.due then Ok (answers.Reset (v.epoch + 1), reset_changes n v) else p

abbrev pub goal_told : Standing → ℕ → Answer
goal_told m epoch = answers.Goal (goal m) m.lent epoch

-- nothing changes
unfoldable pub ask_plan : Tables → ℕ → Planned
ask_plan t n = at_row (row_at t n) (λ v. unless (running_gate (standing_of v)) (unless_due n v (Ok (goal_told (standing_of v) v.epoch, []))))

abbrev pub lent_told : Standing → Answer
lent_told m = answers.Lent (m.lent + 1) (goal m)

unfoldable pub lend_plan : Tables → ℕ → ℕ → Planned
lend_plan t n page = at_row (row_at t n) (λ v. unless (page_gate (standing_of v) page) (unless_due n v
    (unless (lend_gate (is_lent_now v page) (standing_of v))
    (Ok (lent_told (standing_of v), page_leaves t.frames n page (page_at v.pages page) (Lent v.epoch))))))

abbrev pub taken_back : Standing → Answer
taken_back m = answers.TakenBack (m.lent - 1)

-- the page is as one that was never brought
unfoldable pub take_back_plan : Tables → ℕ → ℕ → Planned
take_back_plan t n page = at_row (row_at t n) (λ v. unless (page_gate (standing_of v) page) (unless_due n v
    (unless (take_back_gate (is_lent_now v page))
    (Ok (taken_back (standing_of v), page_leaves t.frames n page (page_at v.pages page) Untouched)))))
