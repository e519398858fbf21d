-- What a trade inside a frame leaves of both. Where there is nothing to trade, nothing changes.
use Rattle.std.specs.Prelude.{ℕ, Bool, true, false, List, length, nat_lt, slice_index_or, if◌then◌else◌}
use Rattle.esx_types.specs.declared.table.FrameRow.{FrameRow}
use Rattle.esx_types.specs.declared.table.FrameRow.TheVariants.{Free, Overhead, Private, Shared}
use Rattle.esx_types.specs.declared.table.SlotRow.{SlotRow}
use Rattle.esx_types.specs.declared.table.SlotRow.TheVariants as slots
use Rattle.esx_lists.specs.Trades.{place_traded, part_traded}
use Rattle.esx_frames.specs.declared.marks.Mark.{Mark}
use Rattle.esx_frames.specs.declared.marks.Mark.TheVariants as marks

-- bytes traded with as many of a page, from byte offset on
abbrev pub bytes_traded : ℕ → FrameRow → List ℕ → FrameRow × List ℕ
bytes_traded offset Free new = (Free, new)
bytes_traded offset Overhead new = (Overhead, new)
bytes_traded offset (Private bytes) new = (Private (part_traded bytes offset new).0, (part_traded bytes offset new).1)
bytes_traded offset (Shared count bytes) new = (Shared count (part_traded bytes offset new).0, (part_traded bytes offset new).1)

-- a page's bytes under a mark
abbrev pub marked : Mark → List ℕ → FrameRow
marked marks.Private bytes = Private bytes
marked (marks.Shared count) bytes = Shared count bytes

-- the mark of a page's frame traded for another
abbrev pub mark_traded : FrameRow → Mark → FrameRow × Mark
mark_traded Free mark = (Free, mark)
mark_traded Overhead mark = (Overhead, mark)
mark_traded (Private bytes) mark = (marked mark bytes, marks.Private)
mark_traded (Shared count bytes) mark = (marked mark bytes, marks.Shared count)

-- the page of a private frame, or none, traded for that of a slot, or none
abbrev pub slot_traded : FrameRow → SlotRow → FrameRow × SlotRow
slot_traded Free slots.Free = (Free, slots.Free)
slot_traded Free (slots.Held bytes) = (Private bytes, slots.Free)
slot_traded (Private bytes) slots.Free = (Free, slots.Held bytes)
slot_traded (Private bytes) (slots.Held other) = (Private other, slots.Held bytes)
slot_traded Overhead slot = (Overhead, slot)
slot_traded (Shared count bytes) slot = (Shared count bytes, slot)

-- the same at a frame of a table; past the end nothing changes
abbrev pub bytes_traded_at : ℕ → ℕ → List FrameRow → List ℕ → List FrameRow × List ℕ
bytes_traded_at f offset rows new = place_traded (bytes_traded offset) rows f Free new

abbrev pub mark_traded_at : ℕ → List FrameRow → Mark → List FrameRow × Mark
mark_traded_at f rows mark = place_traded mark_traded rows f Free mark

abbrev pub slot_traded_at : ℕ → List FrameRow → SlotRow → List FrameRow × SlotRow
slot_traded_at f rows slot = if nat_lt f (length rows) then place_traded slot_traded rows f Free slot else (rows, slot)

-- whether a trade with a slot moves pages: a page of a shared frame stays, and so does an overhead frame
abbrev pub moves : FrameRow → Bool
moves Free = true
moves Overhead = false
moves (Private bytes) = true
moves (Shared count bytes) = false

abbrev pub moves_at : ℕ → List FrameRow → Bool
moves_at f rows = if nat_lt f (length rows) then moves (slice_index_or rows f Free) else false
