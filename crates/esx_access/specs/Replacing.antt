-- The plan of a replacement: a page comes into the frame of another page of its machine, which goes out.
use Rattle.std.specs.Prelude.{ℕ, List, [], ◌∷◌, ◌++◌, map, Option, Some, None, if◌then◌else◌, Ok, Err}
use Rattle.std.specs.List.{list_any}
use Rattle.esx_types.specs.declared.config.Config.{Config}
use Rattle.esx_types.specs.declared.table.FrameRow.{FrameRow}
use Rattle.esx_types.specs.declared.table.FrameRow.TheVariants as frames
use Rattle.esx_types.specs.declared.table.Listing.TheVariants as listings
use Rattle.esx_types.specs.declared.table.MapRow.{MapRow}
use Rattle.esx_types.specs.declared.table.MapRow.TheVariants as maps
use Rattle.esx_types.specs.Frames.{is_shared, frame_at}
use Rattle.esx_types.specs.Slots.{least_slot}
use Rattle.esx_types.specs.Pages.{page_at, is_here}
use Rattle.esx_events.specs.declared.event.Answer.TheVariants as answers
use Rattle.esx_events.specs.declared.event.Refusal.TheVariants.{Short, NotNeeded}
use Rattle.esx_frames.specs.declared.marks.Mark.TheVariants as marks
use Rattle.esx_frames.specs.Counts.{counts_of}
use Rattle.esx_model.specs.declared.book.VmRow.{VmRow}
use Rattle.esx_model.specs.declared.tables.Tables.{Tables}
use Rattle.esx_model.specs.Places.{zeros}
use Rattle.esx_model.specs.Tables.{standing_of}
use Rattle.esx_model.specs.event.Outcome.{unless}
use Rattle.esx_model.specs.event.Paging.{replace_gate}
use Rattle.esx_tables.specs.declared.change.Change.{Change}
use Rattle.esx_tables.specs.declared.change.Change.TheVariants.{FrameAt, MarkAt, ListingAt, FrameWithSlot, OfVm}
use Rattle.esx_tables.specs.declared.change.VmPart.{VmPart}
use Rattle.esx_tables.specs.declared.change.VmPart.TheVariants.{PageAt}
use Rattle.esx_tables.specs.Readings.{row_at}
use Rattle.esx_changes.specs.Planned.{Planned, at_row}
use Rattle.esx_changes.specs.Drawn.{drawn_page}
use Rattle.esx_changes.specs.Spare.{has_spare}
use Rattle.esx_access.specs.Access.{popped_parts}

-- the slot that the wanted page leaves, or else the least that is free
abbrev pub slot_for : Tables → MapRow → Option ℕ
slot_for t maps.Untouched = least_slot t.slots
slot_for t (maps.Here f) = least_slot t.slots
slot_for t (maps.Out i) = Some i
slot_for t (maps.Lent e) = least_slot t.slots

-- a frame that was shared is left with one page, which has it for itself before it goes
abbrev pub own_changes : ℕ → FrameRow → List Change
own_changes f row = if is_shared row then MarkAt f marks.Private ∷ [] else []

-- a page that comes from no slot comes as zeros
abbrev pub new_changes : Config → ℕ → MapRow → List Change
new_changes c f maps.Untouched = FrameAt f (frames.Private (zeros c)) ∷ []
new_changes c f (maps.Here g) = []
new_changes c f (maps.Out i) = []
new_changes c f (maps.Lent e) = FrameAt f (frames.Private (zeros c)) ∷ []

-- page q goes to the slot, and page `page` comes to frame f
abbrev pub replace_parts : VmRow → ℕ → MapRow → ℕ → ℕ → ℕ → List VmPart
replace_parts v page was q slot f = PageAt q (maps.Out slot) ∷ PageAt page (maps.Here f) ∷ popped_parts v was

abbrev pub replace_changes : Config → Tables → ℕ → VmRow → ℕ → MapRow → ℕ → ℕ → ℕ → List Change
replace_changes c t n v page was q slot f =
    own_changes f (frame_at t.frames f) ++ ListingAt f listings.Unlisted ∷ FrameWithSlot f slot ∷ new_changes c f was ++ map (OfVm n) (replace_parts v page was q slot f)

-- by where page q is, which is in a frame
abbrev pub trade_with : Config → Tables → ℕ → VmRow → ℕ → MapRow → ℕ → MapRow → Option ℕ → Planned
trade_with c t n v page was q (maps.Here f) (Some slot) = Ok (answers.Replaced q slot f, replace_changes c t n v page was q slot f)
trade_with c t n v page was q (maps.Here f) None = Err Short
trade_with c t n v page was q maps.Untouched slot = Err NotNeeded
trade_with c t n v page was q (maps.Out i) slot = Err NotNeeded
trade_with c t n v page was q (maps.Lent e) slot = Err NotNeeded

abbrev pub replace_from : Config → Tables → ℕ → VmRow → ℕ → MapRow → Option ℕ → Planned
replace_from c t n v page was None = Err NotNeeded
replace_from c t n v page was (Some q) = trade_with c t n v page was q (page_at v.pages q) (slot_for t was)

unfoldable pub replace_plan : Config → Tables → ℕ → ℕ → ℕ → Planned
replace_plan c t n page word = at_row (row_at t n) (λ v.
    unless (replace_gate (standing_of v) page (is_here (page_at v.pages page)) (counts_of t.frames).free (list_any has_spare t.vms))
    (replace_from c t n v page (page_at v.pages page) (drawn_page v word)))
