-- Where a frame changes, the contents of all others stay.
use Rattle.std.proofs.Common.{◌≡◌, ◌≢◌, ℕ, Bool, true, false, ◌<◌, ◌≤◌, List, length, set, refl, ap, ◌∙◌, sym, inl, inr}
use Rattle.std.proofs.lemmas.Bool.{cases_lt, lt-ltb, le-ltb}
use Rattle.std.proofs.lemmas.List.{get_or-set_other}
use Rattle.esx_types.specs.declared.table.FrameRow.{FrameRow}
use Rattle.esx_types.specs.declared.table.FrameRow.TheVariants.{Free}
use Rattle.esx_types.specs.declared.table.SlotRow.{SlotRow}
use Rattle.esx_types.specs.declared.table.Listing.{Listing}
use Rattle.esx_types.specs.declared.table.Listing.TheVariants.{Unlisted}
use Rattle.esx_types.specs.Frames.{bytes_of}
use Rattle.esx_types.specs.Slots.{slot_at}
use Rattle.esx_frames.specs.Marks.{slot_traded_at}
use Rattle.esx_keys.specs.Index.{is_listed}
use Rattle.esx_tables.specs.Changes.{slots_traded}
use Rattle.esx_tables.specs.Listed.{content_at, is_listed_at}

pub content_elsewhere : (rows : List FrameRow) (f : ℕ) (row : FrameRow) (g : ℕ) → g ≢ f → content_at (set rows f row) g ≡ content_at rows g
content_elsewhere rows f row g other = ap bytes_of (get_or-set_other rows f g row Free other)

pub listed_elsewhere : (listings : List Listing) (f : ℕ) (listing : Listing) (g : ℕ) → g ≢ f → is_listed_at (set listings f listing) g ≡ is_listed_at listings g
listed_elsewhere listings f listing g other = ap is_listed (get_or-set_other listings f g listing Unlisted other)

slot_elsewhere : (rows : List FrameRow) (f : ℕ) (slot : SlotRow) (g : ℕ) → g ≢ f → content_at (slot_traded_at f rows slot).0 g ≡ content_at rows g
slot_elsewhere rows f slot g other = elim (cases_lt f (length rows)) [
  | inl h ↦ rw (lt-ltb f (length rows) h) (content_elsewhere rows f _ g other)
  | inr h ↦ rw (le-ltb f (length rows) h) refl
]

pub slots_elsewhere : (f i : ℕ) (rows : List FrameRow) (slots : List SlotRow) (g : ℕ) → g ≢ f → content_at (slots_traded f i rows slots).0 g ≡ content_at rows g
unfolding slots_traded
slots_elsewhere f i rows slots g other = elim (cases_lt i (length slots)) [
  | inl h ↦ rw (lt-ltb i (length slots) h) (slot_elsewhere rows f (slot_at slots i) g other)
  | inr h ↦ rw (le-ltb i (length slots) h) refl
]
