-- What is left of the tables where a page leaves its place, and what they are after it came to one; the machine's own row aside.
use Rattle.std.specs.Prelude.{◌==◌, ◌≡◌, ℕ, ◌+◌, ◌-◌, Bool, true, false, nat_lt, List, Option, slice_set, if◌then◌else◌}
use Rattle.esx_types.specs.declared.table.FrameRow.{FrameRow}
use Rattle.esx_types.specs.declared.table.FrameRow.TheVariants as frames
use Rattle.esx_types.specs.declared.table.SlotRow.{SlotRow}
use Rattle.esx_types.specs.declared.table.SlotRow.TheVariants as slots
use Rattle.esx_types.specs.Frames.{frame_at}
use Rattle.esx_types.specs.Slots.{slot_at}
use Rattle.esx_formulas.specs.Key.{content_key}
use Rattle.esx_model.specs.declared.scene.Place.{Place}
use Rattle.esx_model.specs.declared.scene.Place.TheVariants.{Untouched, Here, Out, Lent}
use Rattle.esx_types.specs.declared.table.Listing.{Listing}
use Rattle.esx_types.specs.declared.table.Listing.TheVariants as listings
use Rattle.esx_types.specs.Listings.{listing_at}
use Rattle.esx_model.specs.declared.book.VmRow.{VmRow}
use Rattle.esx_model.specs.declared.tables.Tables.{Tables}

-- the row of a frame after one of its pages left
abbrev pub less : FrameRow → FrameRow
less frames.Free = frames.Free
less frames.Overhead = frames.Overhead
less (frames.Private bytes) = frames.Free
less (frames.Shared count bytes) = if nat_lt 1 count then frames.Shared (count - 1) bytes else frames.Free

-- a page may come into a frame with that row
abbrev pub FitsRow : List ℕ → Bool → FrameRow → Type 0
FitsRow bytes shared frames.Free = Unit {0}
FitsRow bytes shared frames.Overhead = ⊥
FitsRow bytes shared (frames.Private old) = ⊥
FitsRow bytes shared (frames.Shared count old) = (shared ≡ true) × (bytes ≡ old)

-- the row after it came
abbrev pub more : List ℕ → Bool → FrameRow → FrameRow
more bytes false row = frames.Private bytes
more bytes true frames.Free = frames.Shared 1 bytes
more bytes true frames.Overhead = frames.Shared 1 bytes
more bytes true (frames.Private old) = frames.Shared 1 bytes
more bytes true (frames.Shared count old) = frames.Shared (count + 1) bytes

-- what the frame stands under after a page left it: a frame that others stay in keeps its key
abbrev pub listing_after : FrameRow → Listing → Listing
listing_after frames.Free old = listings.Unlisted
listing_after frames.Overhead old = listings.Unlisted
listing_after (frames.Private bytes) old = listings.Unlisted
listing_after (frames.Shared count bytes) old = old

-- what it stands under after a page came: the key of its content if it is shared, else nothing
abbrev pub listing_for : List ℕ → Bool → Listing
listing_for bytes false = listings.Unlisted
listing_for bytes true = listings.Shared (content_key bytes)

-- the listing of a hint gives way to another that comes under its short
abbrev pub listing_without : ℕ → Listing → Listing
listing_without key listings.Unlisted = listings.Unlisted
listing_without key (listings.Shared k) = listings.Shared k
listing_without key (listings.Hinted n page k) = if k == key then listings.Unlisted else listings.Hinted n page k

abbrev pub put_vm : Tables → ℕ → Option VmRow → Tables
put_vm b n row = record b { vms = slice_set b.vms n row }

abbrev pub put_frame : Tables → ℕ → FrameRow → Listing → Tables
put_frame b f row listing = record b { frames = slice_set b.frames f row; listings = slice_set b.listings f listing }

abbrev pub put_slot : Tables → ℕ → SlotRow → Tables
put_slot b i row = record b { slots = slice_set b.slots i row }

abbrev pub left : Place → Tables → Tables
left Untouched b = b
left (Here bytes f shared) b = put_frame b f (less (frame_at b.frames f)) (listing_after (less (frame_at b.frames f)) (listing_at b.listings f))
left (Out bytes i) b = put_slot b i slots.Free
left (Lent epoch) b = b

abbrev pub joined : Place → Tables → Tables
joined Untouched b = b
joined (Here bytes f shared) b = put_frame b f (more bytes shared (frame_at b.frames f)) (listing_for bytes shared)
joined (Out bytes i) b = put_slot b i (slots.Held bytes)
joined (Lent epoch) b = b

-- there is room for the page
abbrev pub Fits : Place → Tables → Type 0
Fits Untouched b = Unit {0}
Fits (Here bytes f shared) b = FitsRow bytes shared (frame_at b.frames f)
Fits (Out bytes i) b = slot_at b.slots i ≡ slots.Free
Fits (Lent epoch) b = Unit {0}
