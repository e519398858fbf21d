-- What is to change where a page leaves its place and comes to no other frame and no other slot.
use Rattle.std.specs.Prelude.{ℕ, ◌-◌, nat_lt, List, [], ◌∷◌, ◌++◌, if◌then◌else◌}
use Rattle.esx_types.specs.declared.table.FrameRow.{FrameRow}
use Rattle.esx_types.specs.declared.table.FrameRow.TheVariants as frames
use Rattle.esx_types.specs.declared.table.Listing.TheVariants as listings
use Rattle.esx_types.specs.declared.table.MapRow.{MapRow}
use Rattle.esx_types.specs.declared.table.MapRow.TheVariants as maps
use Rattle.esx_types.specs.declared.table.SlotRow.TheVariants as slots
use Rattle.esx_types.specs.Frames.{frame_at, ref_count}
use Rattle.esx_frames.specs.declared.marks.Mark.TheVariants as marks
use Rattle.esx_tables.specs.declared.change.Change.{Change}
use Rattle.esx_tables.specs.declared.change.Change.TheVariants.{FrameAt, MarkAt, ListingAt, SlotAt, OfVm}
use Rattle.esx_tables.specs.declared.change.VmPart.TheVariants.{PageAt}

-- a frame that so many pages share has one fewer; with the last page it is free and stands under nothing
abbrev pub frame_left : ℕ → ℕ → List Change
frame_left f count = if nat_lt 1 count then MarkAt f (marks.Shared (count - 1)) ∷ [] else FrameAt f frames.Free ∷ ListingAt f listings.Unlisted ∷ []

-- a slot has one page, so that it is free
abbrev pub place_left : List FrameRow → MapRow → List Change
place_left rows maps.Untouched = []
place_left rows (maps.Here f) = frame_left f (ref_count (frame_at rows f))
place_left rows (maps.Out i) = SlotAt i slots.Free ∷ []
place_left rows (maps.Lent epoch) = []

-- a page goes from its old row to a new one
abbrev pub page_leaves : List FrameRow → ℕ → ℕ → MapRow → MapRow → List Change
page_leaves rows n page old new = place_left rows old ++ OfVm n (PageAt page new) ∷ []
