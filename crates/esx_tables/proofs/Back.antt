-- Each change leads back, and so do changes in turn.
use Rattle.std.proofs.Common.{◌≡◌, ℕ, Bool, true, false, not, List, Option, Some, None, option_map, length, refl, ap, ◌∙◌, inl, inr, ◌<◌, ◌≤◌}
use Rattle.std.proofs.lemmas.Bool.{cases_lt, lt-ltb, le-ltb}
use Rattle.std.proofs.Math.ListN.{set}
use Rattle.std.proofs.lemmas.List.{length-set, set-set, set-get_or, get_or-set_same}
use Rattle.esx_types.specs.declared.table.FrameRow.{FrameRow}
use Rattle.esx_types.specs.declared.table.SlotRow.{SlotRow}
use Rattle.esx_types.specs.declared.table.SlotRow.TheVariants as slots
use Rattle.esx_types.specs.declared.table.MapRow.{MapRow}
use Rattle.esx_types.specs.declared.table.Listing.{Listing}
use Rattle.esx_types.specs.Slots.{slot_at}
use Rattle.esx_lists.specs.Trades.{LeadsBack, row_traded}
use Rattle.esx_lists.proofs.Trades.{row_back, place_back}
use Rattle.esx_lists.proofs.Tops.{top_back, turned_back}
use Rattle.esx_lists.proofs.Turns.{turn_back}
use Rattle.esx_frames.specs.Marks.{slot_traded_at}
use Rattle.esx_frames.specs.declared.marks.Mark.{Mark}
use Rattle.esx_frames.proofs.Callers.{bytes_back_at, mark_back_at, slot_back_at}
use Rattle.esx_model.specs.declared.book.VmRow.{VmRow}
use Rattle.esx_model.specs.declared.book.PeriodRow.{PeriodRow}
use Rattle.esx_model.specs.declared.book.Mark.{Mark as SampleMark}
use Rattle.esx_tables.specs.declared.change.VmPart.{VmPart}
use Rattle.esx_tables.specs.declared.change.VmPart.TheVariants.{PageAt, Facts, Target, Period, Done, Touched, Averages, OverheadTop}
use Rattle.esx_tables.specs.declared.change.Change.TheVariants.{FrameAt, MarkAt, BytesAt, ListingAt, SlotAt, FrameWithSlot, OfVm, VmAt, TaxIs}
use Rattle.esx_tables.specs.Machines.{done_traded, mark_turned, no_mark, touched_turned, part_traded, vm_traded}
use Rattle.esx_tables.specs.Changes.{slots_traded, traded, exchanged}

-- Parts of a machine's row.

done_back : LeadsBack done_traded
done_back None done = refl
done_back (Some p) done = refl

mark_back : (m : SampleMark) → mark_turned (mark_turned m) ≡ m
mark_back m = ap (λ (b : Bool). record m { touched = b }) (twice m.touched)
  where
    twice : (b : Bool) → not (not b) ≡ b
    twice true = refl
    twice false = refl

touched_back : (at : ℕ) (o : Option PeriodRow) → option_map (touched_turned at) (option_map (touched_turned at) o) ≡ o
touched_back at None = refl
touched_back at (Some p) = ap (λ (marks : List SampleMark). Some (record p { marks = marks })) (turned_back mark_turned mark_back at no_mark p.marks)

part_back : LeadsBack part_traded
part_back v (PageAt page row) = ap (λ (r : List MapRow × MapRow). (record v { pages = r.0 }, PageAt page r.1)) (row_back v.pages page row)
part_back v (Facts facts) = refl
part_back v (Target target) = refl
part_back v (Period period) = refl
part_back v (Done done) = ap (λ (r : Option PeriodRow × ℕ). (record v { period = r.0 }, Done r.1)) (done_back v.period done)
part_back v (Touched mark) = ap (λ (o : Option PeriodRow). (record v { period = o }, Touched mark)) (touched_back mark v.period)
part_back v (Averages m) = refl
part_back v (OverheadTop frame) = ap (λ (r : List ℕ × Option ℕ). (record v { overhead = r.0 }, OverheadTop r.1)) (top_back v.spec.overhead 0 v.overhead frame)

vm_back : LeadsBack vm_traded
vm_back None part = refl
vm_back (Some v) part = ap (λ (r : VmRow × VmPart). (Some r.0, r.1)) (part_back v part)

-- A frame and a slot.

pub slots_there : (f i : ℕ) (frames : List FrameRow) (rows : List SlotRow) → i < length rows
    → slots_traded f i frames rows ≡ ((slot_traded_at f frames (slot_at rows i)).0, (row_traded rows i (slot_traded_at f frames (slot_at rows i)).1).0)
unfolding slots_traded
slots_there f i frames rows h = rw (lt-ltb i (length rows) h) refl

pub slots_past : (f i : ℕ) (frames : List FrameRow) (rows : List SlotRow) → length rows ≤ i → slots_traded f i frames rows ≡ (frames, rows)
unfolding slots_traded
slots_past f i frames rows h = rw (le-ltb i (length rows) h) refl

slots_back : (f i : ℕ) (frames : List FrameRow) (rows : List SlotRow) → slots_traded f i (slots_traded f i frames rows).0 (slots_traded f i frames rows).1 ≡ (frames, rows)
slots_back f i frames rows =
    let again = λ (r : List FrameRow × List SlotRow). slots_traded f i r.0 r.1 in
    elim (cases_lt i (length rows)) [
      | inl h ↦
          let one = slot_traded_at f frames (slot_at rows i) in
          let more = set rows i one.1 in
          let still : i < length more = rw length-set h in
          ap again (slots_there f i frames rows h)
          ∙ slots_there f i one.0 more still
          ∙ ap (λ (row : SlotRow). ((slot_traded_at f one.0 row).0, set more i (slot_traded_at f one.0 row).1)) (get_or-set_same rows i one.1 slots.Free h)
          ∙ ap (λ (r : List FrameRow × SlotRow). (r.0, set more i r.1)) (slot_back_at f frames (slot_at rows i))
          ∙ ap (λ (l : List SlotRow). (frames, l)) (set-set rows i one.1 (slot_at rows i) ∙ set-get_or rows i slots.Free)
      | inr h ↦ ap again (slots_past f i frames rows h) ∙ slots_past f i frames rows h
    ]

-- Changes.

pub traded_back : LeadsBack traded
unfolding traded
traded_back t (FrameAt f row) = ap (λ (r : List FrameRow × FrameRow). (record t { frames = r.0 }, FrameAt f r.1)) (row_back t.frames f row)
traded_back t (MarkAt f mark) = ap (λ (r : List FrameRow × Mark). (record t { frames = r.0 }, MarkAt f r.1)) (mark_back_at f t.frames mark)
traded_back t (BytesAt f offset bytes) = ap (λ (r : List FrameRow × List ℕ). (record t { frames = r.0 }, BytesAt f offset r.1)) (bytes_back_at f offset t.frames bytes)
traded_back t (ListingAt f listing) = ap (λ (r : List Listing × Listing). (record t { listings = r.0 }, ListingAt f r.1)) (row_back t.listings f listing)
traded_back t (SlotAt i row) = ap (λ (r : List SlotRow × SlotRow). (record t { slots = r.0 }, SlotAt i r.1)) (row_back t.slots i row)
traded_back t (FrameWithSlot f i) = ap (λ (r : List FrameRow × List SlotRow). (record t { frames = r.0; slots = r.1 }, FrameWithSlot f i)) (slots_back f i t.frames t.slots)
traded_back t (OfVm n part) = ap (λ (r : List (Option VmRow) × VmPart). (record t { vms = r.0 }, OfVm n r.1)) (place_back vm_traded vm_back None (λ part. refl) t.vms n part)
traded_back t (VmAt n row) = ap (λ (r : List (Option VmRow) × Option VmRow). (record t { vms = r.0 }, VmAt n r.1)) (row_back t.vms n row)
traded_back t (TaxIs tau) = refl

pub exchanged_back : LeadsBack exchanged
unfolding exchanged
exchanged_back t changes = turn_back traded traded_back t changes
