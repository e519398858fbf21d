-- The plans of a read and of a write.
use Rattle.std.specs.Prelude.{ℕ, ◌-◌, ◌==◌, ◌||◌, nat_lt, List, [], ◌∷◌, ◌++◌, length, take, drop, map, Option, Some, None, Ok, Err, if◌then◌else◌}
use Rattle.esx_types.specs.declared.config.Config.{Config}
use Rattle.esx_types.specs.declared.level.Level.{Level}
use Rattle.esx_types.specs.declared.table.FrameRow.{FrameRow}
use Rattle.esx_types.specs.declared.table.FrameRow.TheVariants as frames
use Rattle.esx_types.specs.declared.table.Listing.TheVariants as listings
use Rattle.esx_types.specs.declared.table.MapRow.{MapRow}
use Rattle.esx_types.specs.declared.table.MapRow.TheVariants as maps
use Rattle.esx_types.specs.Frames.{frame_at, bytes_of, least_frame}
use Rattle.esx_types.specs.Slots.{slot_at, held_bytes}
use Rattle.esx_types.specs.Pages.{page_at}
use Rattle.esx_events.specs.declared.event.Answer.{Answer}
use Rattle.esx_events.specs.declared.event.Answer.TheVariants as answers
use Rattle.esx_events.specs.declared.event.Refusal.TheVariants.{Short}
use Rattle.esx_frames.specs.declared.marks.Mark.TheVariants as marks
use Rattle.esx_model.specs.declared.book.VmRow.{VmRow}
use Rattle.esx_model.specs.declared.tables.Tables.{Tables}
use Rattle.esx_model.specs.Places.{zeros}
use Rattle.esx_model.specs.Tables.{standing_of}
use Rattle.esx_model.specs.event.Outcome.{unless}
use Rattle.esx_model.specs.event.Access.{access_gate, overwritten}
use Rattle.esx_tables.specs.declared.change.Change.{Change}
use Rattle.esx_tables.specs.declared.change.Change.TheVariants.{FrameAt, MarkAt, BytesAt, ListingAt, FrameWithSlot, OfVm}
use Rattle.esx_tables.specs.declared.change.VmPart.{VmPart}
use Rattle.esx_tables.specs.declared.change.VmPart.TheVariants.{PageAt, Facts}
use Rattle.esx_tables.specs.Machines.{facts_of}
use Rattle.esx_tables.specs.Readings.{row_at}
use Rattle.esx_changes.specs.Planned.{Planned, at_row}
use Rattle.esx_changes.specs.Counted.{counted_parts}

-- A page comes to a frame.

-- a page that is lent now pops the balloon
abbrev pub popped_parts : VmRow → MapRow → List VmPart
popped_parts v maps.Untouched = []
popped_parts v (maps.Here frame) = []
popped_parts v (maps.Out slot) = []
popped_parts v (maps.Lent epoch) = Facts (record (facts_of v) { due = v.due || (epoch == v.epoch) }) ∷ []

-- the page comes to frame f from where it was, and the access is counted
abbrev pub come_parts : VmRow → ℕ → MapRow → ℕ → List VmPart
come_parts v page was f = PageAt page (maps.Here f) ∷ popped_parts v was ++ counted_parts v page

abbrev pub come_changes : ℕ → VmRow → ℕ → MapRow → ℕ → List Change
come_changes n v page was f = map (OfVm n) (come_parts v page was f)

-- the page stays in its frame, and the access is counted
abbrev pub stay_changes : ℕ → VmRow → ℕ → List Change
stay_changes n v page = map (OfVm n) (counted_parts v page)

-- it comes to the least frame that is free
abbrev pub come : (ℕ → Answer × List Change) → Option ℕ → Planned
come to None = Err Short
come to (Some f) = Ok (to f)

-- A read.

abbrev pub told : ℕ → ℕ → List ℕ → Answer
told at len bytes = answers.Bytes (take len (drop at bytes))

-- a page that nobody has written is zeros
abbrev pub read_zeros : Config → ℕ → VmRow → ℕ → ℕ → ℕ → MapRow → ℕ → Answer × List Change
read_zeros c n v page at len was f = (told at len (zeros c), FrameAt f (frames.Private (zeros c)) ∷ come_changes n v page was f)

-- a page comes from its slot
abbrev pub read_slot : Tables → ℕ → VmRow → ℕ → ℕ → ℕ → ℕ → ℕ → Answer × List Change
read_slot t n v page at len i f = (told at len (held_bytes (slot_at t.slots i)), FrameWithSlot f i ∷ come_changes n v page (maps.Out i) f)

abbrev pub read_frame : Tables → ℕ → VmRow → ℕ → ℕ → ℕ → ℕ → Answer × List Change
read_frame t n v page at len f = (told at len (bytes_of (frame_at t.frames f)), stay_changes n v page)

abbrev pub read_from : Config → Tables → ℕ → VmRow → ℕ → ℕ → ℕ → MapRow → Planned
read_from c t n v page at len maps.Untouched = come (read_zeros c n v page at len maps.Untouched) (least_frame t.frames)
read_from c t n v page at len (maps.Here f) = Ok (read_frame t n v page at len f)
read_from c t n v page at len (maps.Out i) = come (read_slot t n v page at len i) (least_frame t.frames)
read_from c t n v page at len (maps.Lent e) = come (read_zeros c n v page at len (maps.Lent e)) (least_frame t.frames)

unfoldable pub read_plan : Config → Tables → Level → ℕ → ℕ → ℕ → ℕ → Planned
read_plan c t level n page at len = at_row (row_at t n) (λ v. unless (access_gate c level (standing_of v) page at len)
    (read_from c t n v page at len (page_at v.pages page)))

-- A write.

abbrev pub write_zeros : Config → ℕ → VmRow → ℕ → ℕ → List ℕ → MapRow → ℕ → Answer × List Change
write_zeros c n v page at new was f = (answers.Done, FrameAt f (frames.Private (overwritten (zeros c) at new)) ∷ come_changes n v page was f)

abbrev pub write_slot : ℕ → VmRow → ℕ → ℕ → List ℕ → ℕ → ℕ → Answer × List Change
write_slot n v page at new i f = (answers.Done, FrameWithSlot f i ∷ BytesAt f at new ∷ come_changes n v page (maps.Out i) f)

-- a page that is alone in its frame is written there
abbrev pub write_own : ℕ → VmRow → ℕ → ℕ → List ℕ → ℕ → Answer × List Change
write_own n v page at new f = (answers.Done, BytesAt f at new ∷ stay_changes n v page)

-- a page that shares frame g with others leaves it, and has a copy in frame f
abbrev pub write_copy : ℕ → VmRow → ℕ → ℕ → List ℕ → ℕ → ℕ → List ℕ → ℕ → Answer × List Change
write_copy n v page at new g count bytes f =
    (answers.Done, MarkAt g (marks.Shared (count - 1)) ∷ FrameAt f (frames.Private (overwritten bytes at new)) ∷ come_changes n v page (maps.Here g) f)

-- the last page of a shared frame keeps it, now for itself
abbrev pub write_last : ℕ → VmRow → ℕ → ℕ → List ℕ → ℕ → Answer × List Change
write_last n v page at new f = (answers.Done, MarkAt f marks.Private ∷ ListingAt f listings.Unlisted ∷ BytesAt f at new ∷ stay_changes n v page)

-- by the row of the frame that the page is in; no page is in a frame that is free or overhead
abbrev pub write_frame : Tables → ℕ → VmRow → ℕ → ℕ → List ℕ → ℕ → FrameRow → Planned
write_frame t n v page at new f frames.Free = Err Short
write_frame t n v page at new f frames.Overhead = Err Short
write_frame t n v page at new f (frames.Private bytes) = Ok (write_own n v page at new f)
write_frame t n v page at new f (frames.Shared count bytes) =
    if nat_lt 1 count then come (write_copy n v page at new f count bytes) (least_frame t.frames) else Ok (write_last n v page at new f)

abbrev pub write_from : Config → Tables → ℕ → VmRow → ℕ → ℕ → List ℕ → MapRow → Planned
write_from c t n v page at new maps.Untouched = come (write_zeros c n v page at new maps.Untouched) (least_frame t.frames)
write_from c t n v page at new (maps.Here f) = write_frame t n v page at new f (frame_at t.frames f)
write_from c t n v page at new (maps.Out i) = come (write_slot n v page at new i) (least_frame t.frames)
write_from c t n v page at new (maps.Lent e) = come (write_zeros c n v page at new (maps.Lent e)) (least_frame t.frames)

unfoldable pub write_plan : Config → Tables → Level → ℕ → ℕ → ℕ → List ℕ → Planned
write_plan c t level n page at new = at_row (row_at t n) (λ v. unless (access_gate c level (standing_of v) page at (length new))
    (write_from c t n v page at new (page_at v.pages page)))
