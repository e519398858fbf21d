-- The plan of a page that is paged out.
use Rattle.std.specs.Prelude.{ℕ, ◌-◌, nat_lt, List, [], ◌∷◌, Option, Some, None, if◌then◌else◌, Ok, Err}
use Rattle.esx_types.specs.declared.level.Level.{Level}
use Rattle.esx_types.specs.declared.table.FrameRow.{FrameRow}
use Rattle.esx_types.specs.declared.table.FrameRow.TheVariants as frames
use Rattle.esx_types.specs.declared.table.SlotRow.TheVariants as slots
use Rattle.esx_types.specs.declared.table.MapRow.{MapRow}
use Rattle.esx_types.specs.declared.table.MapRow.TheVariants as maps
use Rattle.esx_types.specs.declared.table.Listing.TheVariants as listings
use Rattle.esx_types.specs.Frames.{frame_at}
use Rattle.esx_types.specs.Slots.{least_slot}
use Rattle.esx_types.specs.Pages.{page_at}
use Rattle.esx_events.specs.declared.event.Answer.TheVariants as answers
use Rattle.esx_events.specs.declared.event.Refusal.TheVariants.{AtTarget, Short}
use Rattle.esx_frames.specs.declared.marks.Mark.TheVariants as marks
use Rattle.esx_model.specs.declared.look.Look.{Look}
use Rattle.esx_model.specs.declared.look.Look.TheVariants.{Already, SharedFrame, OtherPage, Changed, OtherBytes, Nothing}
use Rattle.esx_model.specs.declared.book.VmRow.{VmRow}
use Rattle.esx_model.specs.declared.tables.Tables.{Tables}
use Rattle.esx_model.specs.Tables.{standing_of}
use Rattle.esx_model.specs.event.Outcome.{unless}
use Rattle.esx_model.specs.event.Paging.{swap_out_gate}
use Rattle.esx_tables.specs.declared.change.Change.{Change}
use Rattle.esx_tables.specs.declared.change.Change.TheVariants.{MarkAt, ListingAt, SlotAt, FrameWithSlot, OfVm}
use Rattle.esx_tables.specs.declared.change.VmPart.TheVariants.{PageAt}
use Rattle.esx_tables.specs.Readings.{row_at}
use Rattle.esx_changes.specs.Planned.{Planned, at_row}
use Rattle.esx_changes.specs.Drawn.{drawn_page}
use Rattle.esx_sharing.specs.Sharing.{key_in, look_in, look_changes}

-- a page that is alone in frame f goes to slot i with its bytes
abbrev pub move_changes : ℕ → ℕ → ℕ → ℕ → List Change
move_changes n page f i = FrameWithSlot f i ∷ ListingAt f listings.Unlisted ∷ OfVm n (PageAt page (maps.Out i)) ∷ []

-- a copy of a page that others stay with in frame f goes to slot i; so many stay
abbrev pub copy_changes : ℕ → ℕ → ℕ → ℕ → ℕ → List ℕ → List Change
copy_changes n page f i count bytes = SlotAt i (slots.Held bytes) ∷ MarkAt f (marks.Shared count) ∷ OfVm n (PageAt page (maps.Out i)) ∷ []

-- a page that is alone in a frame that was shared is private before it goes
abbrev pub last_changes : ℕ → ℕ → ℕ → ℕ → List Change
last_changes n page f i = MarkAt f marks.Private ∷ move_changes n page f i

-- by the row of its frame
abbrev pub out_changes : ℕ → ℕ → ℕ → ℕ → FrameRow → List Change
out_changes n page f i frames.Free = []
out_changes n page f i frames.Overhead = []
out_changes n page f i (frames.Private bytes) = move_changes n page f i
out_changes n page f i (frames.Shared count bytes) = if nat_lt 1 count then copy_changes n page f i (count - 1) bytes else last_changes n page f i

abbrev pub to_slot : ℕ → ℕ → ℕ → FrameRow → Option ℕ → Planned
to_slot n page f row None = Err Short
to_slot n page f row (Some i) = Ok (answers.PagedOut page i, out_changes n page f i row)

-- a page that can be shared is shared; of any other look nothing remains
abbrev pub leave_by : Tables → ℕ → ℕ → ℕ → FrameRow → Look → Planned
leave_by t n page f row (SharedFrame g) = Ok (answers.SharedOut page g, look_changes t n page f (key_in row) (SharedFrame g))
leave_by t n page f row (OtherPage m q g) = Ok (answers.SharedOut page g, look_changes t n page f (key_in row) (OtherPage m q g))
leave_by t n page f row Already = to_slot n page f row (least_slot t.slots)
leave_by t n page f row Changed = to_slot n page f row (least_slot t.slots)
leave_by t n page f row OtherBytes = to_slot n page f row (least_slot t.slots)
leave_by t n page f row Nothing = to_slot n page f row (least_slot t.slots)

abbrev pub leave_frame : Tables → ℕ → ℕ → ℕ → FrameRow → Planned
leave_frame t n page f row = leave_by t n page f row (look_in t n page row)

abbrev pub leave_row : Tables → ℕ → ℕ → MapRow → Planned
leave_row t n page (maps.Here f) = leave_frame t n page f (frame_at t.frames f)
leave_row t n page maps.Untouched = Err AtTarget
leave_row t n page (maps.Out slot) = Err AtTarget
leave_row t n page (maps.Lent epoch) = Err AtTarget

-- a machine above its target has a page in a frame
abbrev pub leave : Tables → ℕ → VmRow → Option ℕ → Planned
leave t n v None = Err AtTarget
leave t n v (Some page) = leave_row t n page (page_at v.pages page)

unfoldable pub swap_out_plan : Tables → Level → ℕ → ℕ → Planned
swap_out_plan t level n word = at_row (row_at t n) (λ v. unless (swap_out_gate level (standing_of v)) (leave t n v (drawn_page v word)))
