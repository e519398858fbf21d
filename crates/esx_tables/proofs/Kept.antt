-- Changes keep the sizes of tables, and where there is no such place they change nothing.
use Rattle.std.proofs.Common.{◌≡◌, ℕ, ◌≤◌, List, [], ◌∷◌, Option, None, length, refl, ap, ◌∙◌, get_or, inl, inr}
use Rattle.std.proofs.lemmas.Bool.{cases_lt, lt-ltb, le-ltb}
use Rattle.std.proofs.lemmas.List.{length-set, set_past, get_or_past}
use Rattle.esx_types.specs.declared.table.FrameRow.{FrameRow}
use Rattle.esx_types.specs.declared.table.FrameRow.TheVariants.{Free}
use Rattle.esx_types.specs.declared.table.SlotRow.{SlotRow}
use Rattle.esx_types.specs.declared.table.Listing.{Listing}
use Rattle.esx_types.specs.Slots.{slot_at}
use Rattle.esx_lists.specs.Trades.{row_traded, place_traded, in_turn}
use Rattle.esx_frames.specs.declared.marks.Mark.{Mark}
use Rattle.esx_frames.specs.Marks.{bytes_traded, mark_traded, slot_traded_at}
use Rattle.esx_model.specs.declared.book.VmRow.{VmRow}
use Rattle.esx_model.specs.declared.tables.Tables.{Tables}
use Rattle.esx_tables.specs.declared.change.VmPart.{VmPart}
use Rattle.esx_tables.specs.declared.change.Change.{Change}
use Rattle.esx_tables.specs.declared.change.Change.TheVariants.{FrameAt, MarkAt, BytesAt, ListingAt, SlotAt, FrameWithSlot, OfVm, VmAt, TaxIs}
use Rattle.esx_tables.specs.Machines.{vm_traded}
use Rattle.esx_tables.specs.Changes.{slots_traded, traded, exchanged}
use Rattle.esx_tables.specs.Kept.{SameSizes, IsPast}
use Rattle.esx_tables.proofs.Back.{slots_there, slots_past}

frame_sizes : (f : ℕ) (frames : List FrameRow) (row : SlotRow) → length (slot_traded_at f frames row).0 ≡ length frames
frame_sizes f frames row =
    elim (cases_lt f (length frames)) [
      | inl h ↦ rw (lt-ltb f (length frames) h) (simp length-set)
      | inr h ↦ rw (le-ltb f (length frames) h) refl
    ]

slot_sizes : (f i : ℕ) (frames : List FrameRow) (rows : List SlotRow) → (length (slots_traded f i frames rows).0 ≡ length frames) × (length (slots_traded f i frames rows).1 ≡ length rows)
slot_sizes f i frames rows =
    elim (cases_lt i (length rows)) [
      | inl h ↦ (rw (slots_there f i frames rows h) (frame_sizes f frames (slot_at rows i)), rw (slots_there f i frames rows h) (simp length-set))
      | inr h ↦ (rw (slots_past f i frames rows h) refl, rw (slots_past f i frames rows h) refl)
    ]

pub one_kept : (t : Tables) (c : Change) → SameSizes t (traded t c).0
unfolding traded
one_kept t (FrameAt f row) = record { frames = simp length-set; slots = refl; vms = refl; listings = refl }
one_kept t (MarkAt f mark) = record { frames = simp length-set; slots = refl; vms = refl; listings = refl }
one_kept t (BytesAt f offset bytes) = record { frames = simp length-set; slots = refl; vms = refl; listings = refl }
one_kept t (ListingAt f listing) = record { frames = refl; slots = refl; vms = refl; listings = simp length-set }
one_kept t (SlotAt i row) = record { frames = refl; slots = simp length-set; vms = refl; listings = refl }
one_kept t (FrameWithSlot f i) = let s = slot_sizes f i t.frames t.slots in record { frames = s.0; slots = s.1; vms = refl; listings = refl }
one_kept t (OfVm n part) = record { frames = refl; slots = refl; vms = simp length-set; listings = refl }
one_kept t (VmAt n row) = record { frames = refl; slots = refl; vms = simp length-set; listings = refl }
one_kept t (TaxIs tau) = record { frames = refl; slots = refl; vms = refl; listings = refl }

turn_kept : (t : Tables) (cs : List Change) → SameSizes t (in_turn traded t cs).0
turn_kept t [] = record { frames = refl; slots = refl; vms = refl; listings = refl }
turn_kept t (c ∷ cs) =
    let one = one_kept t c in
    let rest = turn_kept (traded t c).0 cs in
    record { frames = rest.frames ∙ one.frames; slots = rest.slots ∙ one.slots; vms = rest.vms ∙ one.vms; listings = rest.listings ∙ one.listings }

pub all_kept : (t : Tables) (cs : List Change) → SameSizes t (exchanged t cs).0
unfolding exchanged
all_kept t cs = turn_kept t cs

-- Places past the end.

row_past : {A : Type 0} (rows : List A) (i : ℕ) (x : A) → length rows ≤ i → row_traded rows i x ≡ (rows, x)
row_past {A = A} rows i x h = rw (set_past rows i x h, get_or_past rows i x h) refl

place_past : {A B : Type 0} (one : A → B → A × B) (rows : List A) (i : ℕ) (d : A) (b : B) → (one d b).1 ≡ b → length rows ≤ i → place_traded one rows i d b ≡ (rows, b)
place_past one rows i d b e h = rw (set_past rows i (one (get_or rows i d) b).0 h, get_or_past rows i d h, e) refl

pub past_end : (t : Tables) (c : Change) → IsPast t c → traded t c ≡ (t, c)
unfolding traded
past_end t (FrameAt f row) h = ap (λ (r : List FrameRow × FrameRow). (record t { frames = r.0 }, FrameAt f r.1)) (row_past t.frames f row h)
past_end t (MarkAt f mark) h = ap (λ (r : List FrameRow × Mark). (record t { frames = r.0 }, MarkAt f r.1)) (place_past mark_traded t.frames f Free mark refl h)
past_end t (BytesAt f offset bytes) h = ap (λ (r : List FrameRow × List ℕ). (record t { frames = r.0 }, BytesAt f offset r.1)) (place_past (bytes_traded offset) t.frames f Free bytes refl h)
past_end t (ListingAt f listing) h = ap (λ (r : List Listing × Listing). (record t { listings = r.0 }, ListingAt f r.1)) (row_past t.listings f listing h)
past_end t (SlotAt i row) h = ap (λ (r : List SlotRow × SlotRow). (record t { slots = r.0 }, SlotAt i r.1)) (row_past t.slots i row h)
past_end t (FrameWithSlot f i) h = ap (λ (r : List FrameRow × List SlotRow). (record t { frames = r.0; slots = r.1 }, FrameWithSlot f i)) (slots_past f i t.frames t.slots h)
past_end t (OfVm n part) h = ap (λ (r : List (Option VmRow) × VmPart). (record t { vms = r.0 }, OfVm n r.1)) (place_past vm_traded t.vms n None part refl h)
past_end t (VmAt n row) h = ap (λ (r : List (Option VmRow) × Option VmRow). (record t { vms = r.0 }, VmAt n r.1)) (row_past t.vms n row h)
past_end t (TaxIs tau) h = elim h [ ]
