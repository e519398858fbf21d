-- What tables and changes hold together: a trade moves it from one to the other, and makes none.
use Rattle.std.proofs.Common.{◌≡◌, zero, suc, ℕ, ◌+◌, ◌<◌, ◌≤◌, List, [], ◌∷◌, length, get_or, set, refl, arith, Option, Some, None, inl, inr}
use Rattle.std.proofs.lemmas.Bool.{cases_lt, lt-ltb, le-ltb}
use Rattle.esx_lists.specs.Trades.{in_turn, place_traded}
use Rattle.esx_types.specs.declared.table.FrameRow.{FrameRow}
use Rattle.esx_types.specs.declared.table.FrameRow.TheVariants as frames
use Rattle.esx_types.specs.declared.table.SlotRow.{SlotRow}
use Rattle.esx_types.specs.declared.table.SlotRow.TheVariants as slots
use Rattle.esx_types.specs.Frames.{bytes_of}
use Rattle.esx_types.specs.Slots.{held_bytes, slot_at}
use Rattle.esx_frames.specs.declared.marks.Mark.{Mark}
use Rattle.esx_frames.specs.Marks.{bytes_traded, mark_traded, slot_traded, slot_traded_at}
use Rattle.esx_model.specs.declared.book.VmRow.{VmRow}
use Rattle.esx_model.specs.declared.tables.Tables.{Tables}
use Rattle.esx_tables.specs.declared.change.Change.{Change}
use Rattle.esx_tables.specs.declared.change.Change.TheVariants.{FrameAt, MarkAt, BytesAt, ListingAt, SlotAt, FrameWithSlot, OfVm, VmAt, TaxIs}
use Rattle.esx_tables.specs.declared.change.VmPart.{VmPart}
use Rattle.esx_tables.specs.declared.change.VmPart.TheVariants.{PageAt, Facts, Target, Period, Done, Touched, Averages, OverheadTop}
use Rattle.esx_tables.specs.Changes.{traded, slots_traded, exchanged}
use Rattle.esx_tables.specs.Machines.{vm_traded}
use Rattle.esx_tables.specs.Sizes.{size_of, bytes_held, marks_held, part_marks, vm_marks, is_row, is_row_part, is_target, is_target_part}
use Rattle.esx_tables.proofs.Back.{slots_there, slots_past}
use Rattle.esx_records.specs.Moves.{bytes_in, marks_in}
use Rattle.esx_records.proofs.Totals.{total, total_is, total_back, one_if, back}
use Rattle.esx_records.proofs.Pages.{mark_small, part_small, bytes_kept}
use Rattle.esx_records.proofs.Marks.{done_same, turned_same}

-- Lists of which one item changes.

-- an item put where another stood
put : {X : Type 0} (f : X → ℕ) (xs : List X) (i : ℕ) (d x : X) → i < length xs → total f (set xs i x) + f (get_or xs i d) ≡ total f xs + f x
put f [] i d x h = absurd (omega (arith, h))
put f (y ∷ ys) zero d x h = omega arith
put f (y ∷ ys) (suc i) d x h = (let rest = put f ys i d x (omega (arith, h)) in omega (arith, rest))

-- an item traded with the one at a place; past the end it stays out
swapped : {X : Type 0} (f : X → ℕ) (xs : List X) (i : ℕ) (x : X) → total f (set xs i x) + f (get_or xs i x) ≡ total f xs + f x
swapped f [] i x = omega arith
swapped f (y ∷ ys) zero x = omega arith
swapped f (y ∷ ys) (suc i) x = (let rest = swapped f ys i x in omega (arith, rest))

-- an item changed through a trade that makes nothing, at a place that there is
placed : {A B : Type 0} (f : A → ℕ) (g : B → ℕ) (one : A → B → A × B) → ((a : A) (b : B) → f (one a b).0 + g (one a b).1 ≡ f a + g b)
    → (xs : List A) (i : ℕ) (d : A) (b : B) → i < length xs → total f (place_traded one xs i d b).0 + g (place_traded one xs i d b).1 ≡ total f xs + g b
placed f g one even [] i d b h = absurd (omega (arith, h))
placed f g one even (x ∷ xs) zero d b h = (let here = even x b in omega (arith, here))
placed f g one even (x ∷ xs) (suc i) d b h = (let rest = placed f g one even xs i d b (omega (arith, h)) in omega (arith, rest))

-- and anywhere, where past the end the trade leaves what it is given
placed_anywhere : {A B : Type 0} (f : A → ℕ) (g : B → ℕ) (one : A → B → A × B) → ((a : A) (b : B) → f (one a b).0 + g (one a b).1 ≡ f a + g b)
    → (d : A) → ((b : B) → g (one d b).1 ≡ g b) → (xs : List A) (i : ℕ) (b : B) → total f (place_traded one xs i d b).0 + g (place_traded one xs i d b).1 ≡ total f xs + g b
placed_anywhere f g one even d still [] i b = (let same = still b in omega (arith, same))
placed_anywhere f g one even d still (x ∷ xs) zero b = (let here = even x b in omega (arith, here))
placed_anywhere f g one even d still (x ∷ xs) (suc i) b = (let rest = placed_anywhere f g one even d still xs i b in omega (arith, rest))

-- what one trade keeps together changes made in turn keep together
kept_together : (m : Tables → ℕ) (f : Change → ℕ) → ((t : Tables) (change : Change) → m (traded t change).0 + f (traded t change).1 ≡ m t + f change)
    → (t : Tables) (changes : List Change) → m (in_turn traded t changes).0 + total f (back t changes) ≡ m t + total f changes
kept_together m f even t [] = refl
kept_together m f even t (change ∷ changes) =
    let split = total_back f t change changes in
    let one = even t change in
    let rest = kept_together m f even (traded t change).0 changes in
    omega (arith, split, one, rest)

-- Bytes of pages.

abbrev frame_bytes : FrameRow → ℕ
frame_bytes row = length (bytes_of row)

abbrev slot_bytes : SlotRow → ℕ
slot_bytes row = length (held_bytes row)

abbrev all_bytes : Tables → ℕ
all_bytes t = total frame_bytes t.frames + total slot_bytes t.slots

slot_even : (row : FrameRow) (slot : SlotRow) → frame_bytes (slot_traded row slot).0 + slot_bytes (slot_traded row slot).1 ≡ frame_bytes row + slot_bytes slot
slot_even frames.Free slots.Free = omega arith
slot_even frames.Free (slots.Held bytes) = omega arith
slot_even (frames.Private bytes) slots.Free = omega arith
slot_even (frames.Private bytes) (slots.Held other) = omega arith
slot_even frames.Overhead slot = omega arith
slot_even (frames.Shared count bytes) slot = omega arith

slot_at_even : (f : ℕ) (rows : List FrameRow) (slot : SlotRow) → total frame_bytes (slot_traded_at f rows slot).0 + slot_bytes (slot_traded_at f rows slot).1 ≡ total frame_bytes rows + slot_bytes slot
slot_at_even f rows slot =
    elim (cases_lt f (length rows)) [
      | inl h ↦ rw (lt-ltb f (length rows) h) (placed frame_bytes slot_bytes slot_traded slot_even rows f frames.Free slot h)
      | inr h ↦ rw (le-ltb f (length rows) h) refl
    ]

slots_even : (f i : ℕ) (rows : List FrameRow) (held : List SlotRow)
    → total frame_bytes (slots_traded f i rows held).0 + total slot_bytes (slots_traded f i rows held).1 ≡ total frame_bytes rows + total slot_bytes held
slots_even f i rows held =
    elim (cases_lt i (length held)) [
      | inl h ↦
          let moved = slot_at_even f rows (slot_at held i) in
          let in_place = put slot_bytes held i slots.Free (slot_traded_at f rows (slot_at held i)).1 h in
          rw (slots_there f i rows held h) (omega (arith, moved, in_place))
      | inr h ↦ rw (slots_past f i rows held h) refl
    ]

abbrev no_bytes : Mark → ℕ
no_bytes mark = 0

mark_even : (row : FrameRow) (mark : Mark) → frame_bytes (mark_traded row mark).0 + no_bytes (mark_traded row mark).1 ≡ frame_bytes row + no_bytes mark
mark_even row mark = (let same = mark_small row mark in omega (arith, same))

part_even : (offset : ℕ) (row : FrameRow) (new : List ℕ) → frame_bytes (bytes_traded offset row new).0 + length (bytes_traded offset row new).1 ≡ frame_bytes row + length new
part_even offset row new =
    let kept = part_small row offset new in
    let many = bytes_kept row offset new in
    omega (arith, kept, many)

bytes_even : (t : Tables) (change : Change) → all_bytes (traded t change).0 + bytes_held (traded t change).1 ≡ all_bytes t + bytes_held change
unfolding traded
bytes_even t (FrameAt g row) = (let one = swapped frame_bytes t.frames g row in omega (arith, one))
bytes_even t (SlotAt i row) = (let one = swapped slot_bytes t.slots i row in omega (arith, one))
bytes_even t (MarkAt g mark) =
    let one = placed_anywhere frame_bytes no_bytes mark_traded mark_even frames.Free (λ mark. refl) t.frames g mark in
    omega (arith, one)
bytes_even t (BytesAt g offset bytes) =
    let one = placed_anywhere frame_bytes length (bytes_traded offset) (part_even offset) frames.Free (λ new. refl) t.frames g bytes in
    omega (arith, one)
bytes_even t (FrameWithSlot g i) = (let one = slots_even g i t.frames t.slots in omega (arith, one))
bytes_even t (ListingAt g listing) = refl
bytes_even t (OfVm n part) = refl
bytes_even t (VmAt n row) = refl
bytes_even t (TaxIs tau) = refl

pub bytes_together : (t : Tables) (changes : List Change) → bytes_in (exchanged t changes).0 + (size_of (exchanged t changes).1).bytes ≡ bytes_in t + (size_of changes).bytes
unfolding exchanged
bytes_together t changes =
    let sum = kept_together all_bytes bytes_held bytes_even t changes in
    let u = (in_turn traded t changes).0 in
    let a = total_is frame_bytes t.frames in
    let b = total_is slot_bytes t.slots in
    let c = total_is frame_bytes u.frames in
    let d = total_is slot_bytes u.slots in
    let e = total_is bytes_held changes in
    let f = total_is bytes_held (back t changes) in
    omega (arith, sum, a, b, c, d, e, f)

-- Sample marks.

vm_even : (o : Option VmRow) (part : VmPart) → vm_marks (vm_traded o part).0 + part_marks (vm_traded o part).1 ≡ vm_marks o + part_marks part
vm_even None part = refl
vm_even (Some v) (PageAt page row) = refl
vm_even (Some v) (Facts facts) = refl
vm_even (Some v) (Target target) = refl
vm_even (Some v) (Period period) = omega arith
vm_even (Some v) (Done done) = (let same = done_same v.period done in omega (arith, same))
vm_even (Some v) (Touched mark) = (let same = turned_same v v.period mark refl in omega (arith, same))
vm_even (Some v) (Averages m) = refl
vm_even (Some v) (OverheadTop frame) = refl

marks_even : (t : Tables) (change : Change) → total vm_marks (traded t change).0.vms + marks_held (traded t change).1 ≡ total vm_marks t.vms + marks_held change
unfolding traded
marks_even t (OfVm n part) = placed_anywhere vm_marks part_marks vm_traded vm_even None (λ part. refl) t.vms n part
marks_even t (VmAt n row) = swapped vm_marks t.vms n row
marks_even t (FrameAt f row) = refl
marks_even t (MarkAt f mark) = refl
marks_even t (BytesAt f offset bytes) = refl
marks_even t (ListingAt f listing) = refl
marks_even t (SlotAt i row) = refl
marks_even t (FrameWithSlot f i) = refl
marks_even t (TaxIs tau) = refl

pub marks_together : (t : Tables) (changes : List Change) → marks_in (exchanged t changes).0 + (size_of (exchanged t changes).1).marks ≡ marks_in t + (size_of changes).marks
unfolding exchanged
marks_together t changes =
    let sum = kept_together (λ u. total vm_marks u.vms) marks_held marks_even t changes in
    let a = total_is vm_marks t.vms in
    let b = total_is vm_marks (in_turn traded t changes).0.vms in
    let c = total_is marks_held changes in
    let d = total_is marks_held (back t changes) in
    omega (arith, sum, a, b, c, d)

-- Each change is a row, a target or a sample mark.

part_counts : (part : VmPart) → 1 ≤ one_if is_row_part part + part_marks part + one_if is_target_part part
part_counts (PageAt page row) = omega arith
part_counts (Facts facts) = omega arith
part_counts (Target target) = omega arith
part_counts (Period period) = omega arith
part_counts (Done done) = omega arith
part_counts (Touched mark) = omega arith
part_counts (Averages m) = omega arith
part_counts (OverheadTop frame) = omega arith

counts : (change : Change) → 1 ≤ one_if is_row change + marks_held change + one_if is_target change
counts (OfVm n part) = part_counts part
counts (VmAt n row) = omega arith
counts (FrameAt f row) = omega arith
counts (MarkAt f mark) = omega arith
counts (BytesAt f offset bytes) = omega arith
counts (ListingAt f listing) = omega arith
counts (SlotAt i row) = omega arith
counts (FrameWithSlot f i) = omega arith
counts (TaxIs tau) = omega arith

all_counted : (changes : List Change) → length changes ≤ total (one_if is_row) changes + total marks_held changes + total (one_if is_target) changes
all_counted [] = omega arith
all_counted (change ∷ changes) =
    let one = counts change in
    let rest = all_counted changes in
    omega (arith, one, rest)

pub changes_counted : (changes : List Change) → length changes ≤ (size_of changes).rows + (size_of changes).marks + (size_of changes).targets
changes_counted changes =
    let r = total_is (one_if is_row) changes in
    let m = total_is marks_held changes in
    let t = total_is (one_if is_target) changes in
    let all = all_counted changes in
    omega (arith, r, m, t, all)
