-- What making a change leaves of the tables, and the change that leads back. Each is its own inverse, and where there is no
-- such place nothing changes.
use Rattle.std.specs.Prelude.{ℕ, nat_lt, Bool, List, None, length, reverse, slice_set, if◌then◌else◌}
use Rattle.esx_types.specs.declared.table.FrameRow.{FrameRow}
use Rattle.esx_types.specs.declared.table.SlotRow.{SlotRow}
use Rattle.esx_types.specs.Slots.{slot_at}
use Rattle.esx_lists.specs.Trades.{in_turn, row_traded, place_traded}
use Rattle.esx_frames.specs.Marks.{bytes_traded_at, mark_traded_at, slot_traded_at}
use Rattle.esx_model.specs.declared.tables.Tables.{Tables}
use Rattle.esx_tables.specs.declared.change.Change.{Change}
use Rattle.esx_tables.specs.declared.change.Change.TheVariants.{FrameAt, MarkAt, BytesAt, ListingAt, SlotAt, FrameWithSlot, OfVm, VmAt, TaxIs}
use Rattle.esx_tables.specs.Machines.{vm_traded}

-- the page of a private frame, or none, traded for that of a slot, or none
unfoldable pub slots_traded : ℕ → ℕ → List FrameRow → List SlotRow → List FrameRow × List SlotRow
slots_traded f i frames slots =
    if nat_lt i (length slots) then ((slot_traded_at f frames (slot_at slots i)).0, slice_set slots i (slot_traded_at f frames (slot_at slots i)).1)
    else (frames, slots)

-- one change made
unfoldable pub traded : Tables → Change → Tables × Change
traded t (FrameAt f row) = (record t { frames = (row_traded t.frames f row).0 }, FrameAt f (row_traded t.frames f row).1)
traded t (MarkAt f mark) = (record t { frames = (mark_traded_at f t.frames mark).0 }, MarkAt f (mark_traded_at f t.frames mark).1)
traded t (BytesAt f offset bytes) = (record t { frames = (bytes_traded_at f offset t.frames bytes).0 }, BytesAt f offset (bytes_traded_at f offset t.frames bytes).1)
traded t (ListingAt f listing) = (record t { listings = (row_traded t.listings f listing).0 }, ListingAt f (row_traded t.listings f listing).1)
traded t (SlotAt i row) = (record t { slots = (row_traded t.slots i row).0 }, SlotAt i (row_traded t.slots i row).1)
traded t (FrameWithSlot f i) = (record t { frames = (slots_traded f i t.frames t.slots).0; slots = (slots_traded f i t.frames t.slots).1 }, FrameWithSlot f i)
traded t (OfVm n part) = (record t { vms = (place_traded vm_traded t.vms n None part).0 }, OfVm n (place_traded vm_traded t.vms n None part).1)
traded t (VmAt n row) = (record t { vms = (row_traded t.vms n row).0 }, VmAt n (row_traded t.vms n row).1)
traded t (TaxIs tau) = (record t { tau = tau }, TaxIs t.tau)

-- changes made in turn; the list that leads back begins with the last of them
unfoldable pub exchanged : Tables → List Change → Tables × List Change
exchanged t changes = in_turn traded t changes

-- a list from its front, or from its end
abbrev pub in_order : Bool → List Change → List Change
in_order at_end changes = if at_end then reverse changes else changes
