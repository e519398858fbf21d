-- What a trade with a slot does to pages: where it moves them each stands in the other's place, else nothing changes.
use Rattle.std.proofs.Common.{◌≡◌, ℕ, true, false, true≢false, List, length, set, refl, sym, ap, ◌∙◌, inl, inr, ◌<◌, get_or-set_same}
use Rattle.std.proofs.lemmas.Bool.{cases_lt, lt-ltb, le-ltb}
use Rattle.std.proofs.lemmas.List.{set-get_or}
use Rattle.esx_types.specs.declared.table.FrameRow.{FrameRow}
use Rattle.esx_types.specs.declared.table.FrameRow.TheVariants.{Free, Overhead, Private, Shared}
use Rattle.esx_types.specs.declared.table.SlotRow.{SlotRow}
use Rattle.esx_types.specs.declared.table.SlotRow.TheVariants as slots
use Rattle.esx_types.specs.Frames.{bytes_of, frame_at}
use Rattle.esx_types.specs.Slots.{held_bytes}
use Rattle.esx_frames.specs.Marks.{moves, moves_at, slot_traded, slot_traded_at}
use Rattle.esx_frames.proofs.Callers.{slot_traded_inside, slot_traded_past}

row_out : (row : FrameRow) (slot : SlotRow) → moves row ≡ true → held_bytes (slot_traded row slot).1 ≡ bytes_of row
row_out Free slots.Free m = refl
row_out Free (slots.Held bytes) m = refl
row_out (Private bytes) slots.Free m = refl
row_out (Private bytes) (slots.Held other) m = refl
row_out Overhead slot m = absurd (true≢false (sym m))
row_out (Shared count bytes) slot m = absurd (true≢false (sym m))

row_in : (row : FrameRow) (slot : SlotRow) → moves row ≡ true → bytes_of (slot_traded row slot).0 ≡ held_bytes slot
row_in Free slots.Free m = refl
row_in Free (slots.Held bytes) m = refl
row_in (Private bytes) slots.Free m = refl
row_in (Private bytes) (slots.Held other) m = refl
row_in Overhead slot m = absurd (true≢false (sym m))
row_in (Shared count bytes) slot m = absurd (true≢false (sym m))

row_stays : (row : FrameRow) (slot : SlotRow) → moves row ≡ false → slot_traded row slot ≡ (row, slot)
row_stays Free slot m = absurd (true≢false m)
row_stays (Private bytes) slot m = absurd (true≢false m)
row_stays Overhead slot m = refl
row_stays (Shared count bytes) slot m = refl

pub page_out : (f : ℕ) (rows : List FrameRow) (slot : SlotRow) → moves_at f rows ≡ true → held_bytes (slot_traded_at f rows slot).1 ≡ bytes_of (frame_at rows f)
page_out f rows slot m = elim (cases_lt f (length rows)) [
  | inl h ↦ rw (slot_traded_inside f rows slot h) (row_out (frame_at rows f) slot (rw (lt-ltb f (length rows) h) at m))
  | inr past ↦ absurd (true≢false (sym (rw (le-ltb f (length rows) past) at m)))
]

pub page_in : (f : ℕ) (rows : List FrameRow) (slot : SlotRow) → moves_at f rows ≡ true → bytes_of (frame_at (slot_traded_at f rows slot).0 f) ≡ held_bytes slot
page_in f rows slot m = elim (cases_lt f (length rows)) [
  | inl h ↦ rw (slot_traded_inside f rows slot h) (ap bytes_of (get_or-set_same rows f (slot_traded (frame_at rows f) slot).0 Free h) ∙ row_in (frame_at rows f) slot (rw (lt-ltb f (length rows) h) at m))
  | inr past ↦ absurd (true≢false (sym (rw (le-ltb f (length rows) past) at m)))
]

pub moves_inside : (f : ℕ) (rows : List FrameRow) → moves_at f rows ≡ true → f < length rows
moves_inside f rows m = elim (cases_lt f (length rows)) [
  | inl h ↦ h
  | inr past ↦ absurd (true≢false (sym (rw (le-ltb f (length rows) past) at m)))
]

pub pages_stay : (f : ℕ) (rows : List FrameRow) (slot : SlotRow) → moves_at f rows ≡ false → slot_traded_at f rows slot ≡ (rows, slot)
pages_stay f rows slot m = elim (cases_lt f (length rows)) [
  | inl h ↦
      slot_traded_inside f rows slot h
      ∙ ap (λ (r : FrameRow × SlotRow). (set rows f r.0, r.1)) (row_stays (frame_at rows f) slot (rw (lt-ltb f (length rows) h) at m))
      ∙ ap (λ (l : List FrameRow). (l, slot)) (set-get_or rows f Free)
  | inr past ↦ slot_traded_past f rows slot past
]

pub page_stays : (f : ℕ) (rows : List FrameRow) (slot : SlotRow) → moves_at f rows ≡ false → (slot_traded_at f rows slot).1 ≡ slot
page_stays f rows slot m = ap (λ (r : List FrameRow × SlotRow). r.1) (pages_stay f rows slot m)
