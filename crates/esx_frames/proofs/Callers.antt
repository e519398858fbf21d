-- What callers cite: each trade with a table leads back.
use Rattle.std.proofs.Common.{◌≡◌, ℕ, ◌<◌, ◌≤◌, List, length, refl, ap, ◌∙◌, inl, inr}
use Rattle.std.proofs.lemmas.Bool.{cases_lt, lt-ltb, le-ltb}
use Rattle.std.proofs.lemmas.List.{length-set}
use Rattle.esx_types.specs.declared.table.FrameRow.{FrameRow}
use Rattle.esx_types.specs.declared.table.FrameRow.TheVariants.{Free, Overhead, Private, Shared}
use Rattle.esx_types.specs.declared.table.SlotRow.{SlotRow}
use Rattle.esx_types.specs.declared.table.SlotRow.TheVariants as slots
use Rattle.esx_lists.specs.Trades.{LeadsBack, place_traded}
use Rattle.esx_lists.proofs.Trades.{place_back, place_back_inside, part_back}
use Rattle.esx_frames.specs.Marks.{bytes_traded, mark_traded, slot_traded, bytes_traded_at, mark_traded_at, slot_traded_at}
use Rattle.esx_frames.specs.declared.marks.Mark.TheVariants as marks

pub bytes_back : (offset : ℕ) → LeadsBack (bytes_traded offset)
bytes_back offset Free new = refl
bytes_back offset Overhead new = refl
bytes_back offset (Private bytes) new = ap (λ (r : List ℕ × List ℕ). (Private r.0, r.1)) (part_back bytes offset new)
bytes_back offset (Shared count bytes) new = ap (λ (r : List ℕ × List ℕ). (Shared count r.0, r.1)) (part_back bytes offset new)

pub mark_back : LeadsBack mark_traded
mark_back Free mark = refl
mark_back Overhead mark = refl
mark_back (Private bytes) marks.Private = refl
mark_back (Private bytes) (marks.Shared count) = refl
mark_back (Shared n bytes) marks.Private = refl
mark_back (Shared n bytes) (marks.Shared count) = refl

pub slot_back : LeadsBack slot_traded
slot_back Free slots.Free = refl
slot_back Free (slots.Held bytes) = refl
slot_back (Private bytes) slots.Free = refl
slot_back (Private bytes) (slots.Held other) = refl
slot_back Overhead slot = refl
slot_back (Shared count bytes) slot = refl

pub bytes_back_at : (f offset : ℕ) → LeadsBack (bytes_traded_at f offset)
bytes_back_at f offset rows new = place_back (bytes_traded offset) (bytes_back offset) Free (λ b. refl) rows f new

pub mark_back_at : (f : ℕ) → LeadsBack (mark_traded_at f)
mark_back_at f rows mark = place_back mark_traded mark_back Free (λ b. refl) rows f mark

pub slot_traded_inside : (f : ℕ) (rows : List FrameRow) (slot : SlotRow) → f < length rows → slot_traded_at f rows slot ≡ place_traded slot_traded rows f Free slot
slot_traded_inside f rows slot h = rw (lt-ltb f (length rows) h) refl

pub slot_traded_past : (f : ℕ) (rows : List FrameRow) (slot : SlotRow) → length rows ≤ f → slot_traded_at f rows slot ≡ (rows, slot)
slot_traded_past f rows slot h = rw (le-ltb f (length rows) h) refl

pub slot_back_at : (f : ℕ) → LeadsBack (slot_traded_at f)
slot_back_at f rows slot =
    let again = λ (r : List FrameRow × SlotRow). slot_traded_at f r.0 r.1 in
    elim (cases_lt f (length rows)) [
      | inl h ↦
          let there = place_traded slot_traded rows f Free slot in
          let still : f < length there.0 = rw length-set h in
          ap again (slot_traded_inside f rows slot h) ∙ slot_traded_inside f there.0 there.1 still ∙ place_back_inside slot_traded slot_back Free rows f slot h
      | inr h ↦ ap again (slot_traded_past f rows slot h) ∙ slot_traded_past f rows slot h
    ]
