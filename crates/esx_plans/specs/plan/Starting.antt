-- The plan of a start.
use Rattle.std.specs.Prelude.{ℕ, ◌+◌, not, nat_lt, List, [], ◌∷◌, length, Option, Some, None, if◌then◌else◌, Ok, Err}
use Rattle.esx_types.specs.declared.vm.VmState.TheVariants as states
use Rattle.esx_types.specs.declared.table.FrameRow.TheVariants as frames
use Rattle.esx_types.specs.Frames.{least_frame}
use Rattle.esx_events.specs.declared.event.Answer.{Answer}
use Rattle.esx_events.specs.declared.event.Answer.TheVariants.{Started}
use Rattle.esx_events.specs.declared.event.Refusal.TheVariants.{Short}
use Rattle.esx_model.specs.declared.book.VmRow.{VmRow}
use Rattle.esx_model.specs.declared.tables.Tables.{Tables}
use Rattle.esx_model.specs.Tables.{standing_of}
use Rattle.esx_model.specs.event.Outcome.{unless}
use Rattle.esx_model.specs.event.Starting.{start_gate}
use Rattle.esx_tables.specs.declared.change.Change.{Change}
use Rattle.esx_tables.specs.declared.change.Change.TheVariants.{FrameAt, OfVm}
use Rattle.esx_tables.specs.declared.change.VmPart.TheVariants.{Facts, OverheadTop}
use Rattle.esx_tables.specs.Machines.{facts_of}
use Rattle.esx_tables.specs.Readings.{row_at}
use Rattle.esx_changes.specs.Planned.{Planned, at_row}

abbrev pub started : VmRow → ℕ → Answer
started v f = Started (not (nat_lt (length v.overhead + 1) v.spec.overhead)) f (length v.overhead + 1) v.spec.overhead

-- the frame is its overhead; with all of them the machine runs
abbrev pub start_changes : ℕ → VmRow → ℕ → List Change
start_changes n v f = FrameAt f frames.Overhead
    ∷ OfVm n (OverheadTop (Some f))
    ∷ OfVm n (Facts (record (facts_of v) { state = if nat_lt (length v.overhead + 1) v.spec.overhead then states.Starting else states.Running })) ∷ []

abbrev pub start_from : ℕ → VmRow → Option ℕ → Planned
start_from n v None = Err Short
start_from n v (Some f) = Ok (started v f, start_changes n v f)

unfoldable pub start_plan : Tables → ℕ → Planned
start_plan t n = at_row (row_at t n) (λ v. unless (start_gate (standing_of v)) (start_from n v (least_frame t.frames)))
