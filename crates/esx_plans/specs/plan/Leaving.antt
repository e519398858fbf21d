-- The plans of a machine that leaves: it stops, drops its pages, and gives back its overhead frames.
use Rattle.std.specs.Prelude.{ℕ, ◌-◌, ◌||◌, nat_lt, List, [], ◌∷◌, length, slice_index, None, Ok, if◌then◌else◌}
use Rattle.esx_types.specs.declared.vm.VmState.TheVariants.{Stopping}
use Rattle.esx_types.specs.declared.table.FrameRow.TheVariants as frames
use Rattle.esx_types.specs.declared.table.MapRow.TheVariants.{Untouched}
use Rattle.esx_types.specs.Pages.{is_here, is_out, page_at}
use Rattle.esx_events.specs.declared.event.Answer.{Answer}
use Rattle.esx_events.specs.declared.event.Answer.TheVariants as answers
use Rattle.esx_model.specs.declared.book.VmRow.{VmRow}
use Rattle.esx_model.specs.declared.tables.Tables.{Tables}
use Rattle.esx_model.specs.Tables.{standing_of}
use Rattle.esx_model.specs.event.Outcome.{unless}
use Rattle.esx_model.specs.event.Leaving.{stop_gate, drop_gate, gone_gate}
use Rattle.esx_tables.specs.declared.change.Change.{Change}
use Rattle.esx_tables.specs.declared.change.Change.TheVariants.{FrameAt, OfVm, VmAt}
use Rattle.esx_tables.specs.declared.change.VmPart.TheVariants.{Facts, Period, OverheadTop}
use Rattle.esx_tables.specs.Machines.{facts_of}
use Rattle.esx_tables.specs.Readings.{row_at}
use Rattle.esx_changes.specs.Planned.{Planned, at_row}
use Rattle.esx_changes.specs.Leaves.{page_leaves}

-- an open period is dropped
unfoldable pub stop_plan : Tables → ℕ → Planned
stop_plan t n = at_row (row_at t n) (λ v. unless (stop_gate (standing_of v))
    (Ok (answers.Done, OfVm n (Facts (record (facts_of v) { state = Stopping })) ∷ OfVm n (Period None) ∷ [])))

-- only a page that is in a frame or in a slot can be dropped
unfoldable pub drop_plan : Tables → ℕ → ℕ → Planned
drop_plan t n page = at_row (row_at t n) (λ v. unless (drop_gate (standing_of v) page (is_here (page_at v.pages page) || is_out (page_at v.pages page)))
    (Ok (answers.Done, page_leaves t.frames n page (page_at v.pages page) Untouched)))

-- how many overhead frames are held after one was given back; or that the machine is gone
abbrev pub given_back : VmRow → Answer
given_back v = if nat_lt 1 (length v.overhead) then answers.GivenBack (length v.overhead - 1) else answers.Gone

-- with its last overhead frame, if it has one, the machine goes as a whole
abbrev pub gone_changes : ℕ → List ℕ → List Change
gone_changes n [] = VmAt n None ∷ []
gone_changes n (f ∷ fs) = FrameAt f frames.Free ∷ VmAt n None ∷ []

-- the overhead frame that was taken last is free
abbrev pub give_back_changes : ℕ → VmRow → List Change
give_back_changes n v =
    if nat_lt 1 (length v.overhead) then FrameAt (slice_index v.overhead (length v.overhead - 1)) frames.Free ∷ OfVm n (OverheadTop None) ∷ []
    else gone_changes n v.overhead

unfoldable pub gone_plan : Tables → ℕ → Planned
gone_plan t n = at_row (row_at t n) (λ v. unless (gone_gate (standing_of v)) (Ok (given_back v, give_back_changes n v)))
