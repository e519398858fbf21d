-- The bytes of changes: no trade gives more than a page, and one of bytes in a page gives as many as it takes.
use Rattle.std.proofs.Common.{◌≡◌, zero, suc, ℕ, ◌-◌, ◌≤◌, nat_lt, Bool, true, false, List, [], ◌∷◌, length, take, drop, get_or, set, refl, arith, cond}
use Rattle.std.specs.List.{AllByRecursion}
use Rattle.std.proofs.lemmas.Grind.{common_steps}
use Rattle.std.proofs.lemmas.List.{length-replicate}
use Rattle.std.proofs.lemmas.Bool.Decides.{nat_tests}
use Rattle.esx_lists.specs.Trades.{part_traded, place_traded}
use Rattle.esx_lists.proofs.Trades.{fits, part_fits, part_misfits, length-part_traded}
use Rattle.esx_types.specs.declared.config.Config.{Config}
use Rattle.esx_types.specs.declared.table.FrameRow.{FrameRow}
use Rattle.esx_types.specs.declared.table.FrameRow.TheVariants as frames
use Rattle.esx_types.specs.declared.table.SlotRow.{SlotRow}
use Rattle.esx_types.specs.declared.table.SlotRow.TheVariants as slots
use Rattle.esx_types.specs.Frames.{bytes_of, frame_at}
use Rattle.esx_types.specs.Slots.{held_bytes, slot_at}
use Rattle.esx_frames.specs.declared.marks.Mark.{Mark}
use Rattle.esx_frames.specs.declared.marks.Mark.TheVariants as marks
use Rattle.esx_frames.specs.Marks.{bytes_traded, mark_traded, slot_traded, slot_traded_at}
use Rattle.esx_model.specs.declared.tables.Tables.{Tables}
use Rattle.esx_model.specs.Places.{zeros}
use Rattle.esx_tables.specs.declared.change.Change.{Change}
use Rattle.esx_tables.specs.declared.change.Change.TheVariants.{FrameAt, MarkAt, BytesAt, ListingAt, SlotAt, FrameWithSlot, OfVm, VmAt, TaxIs}
use Rattle.esx_tables.specs.Changes.{traded, slots_traded}
use Rattle.esx_tables.specs.Sizes.{bytes_held}
use Rattle.esx_records.proofs.Totals.{total, back, each_within, bounded_back, total_back}

-- Rows of which something holds.

pub all_set : {X : Type 0} (P : X → Type 0) (xs : List X) (i : ℕ) (x : X) → AllByRecursion P xs → P x → AllByRecursion P (set xs i x)
all_set P [] i x all one = tt
all_set P (y ∷ ys) zero x all one = (one, all.1)
all_set P (y ∷ ys) (suc i) x all one = (all.0, all_set P ys i x all.1 one)

pub all_get : {X : Type 0} (P : X → Type 0) (xs : List X) (i : ℕ) (d : X) → AllByRecursion P xs → P d → P (get_or xs i d)
all_get P [] i d all one = one
all_get P (y ∷ ys) zero d all one = all.0
all_get P (y ∷ ys) (suc i) d all one = all_get P ys i d all.1 one

pub all_of : {X : Type 0} (P : X → Type 0) (xs : List X) (d : X) → ((i : ℕ) → P (get_or xs i d)) → AllByRecursion P xs
all_of P [] d each = tt
all_of P (y ∷ ys) d each = (each zero, all_of P ys d (λ i. each (suc i)))

-- Tables whose frames and slots have a page of bytes at most.

abbrev pub IsPageAtMost : Config → FrameRow → Type 0
IsPageAtMost c row = length (bytes_of row) ≤ c.page

abbrev pub IsSlotAtMost : Config → SlotRow → Type 0
IsSlotAtMost c row = length (held_bytes row) ≤ c.page

pub record HavePages (c : Config) (t : Tables) : Type 0 where
  pub frames : AllByRecursion (IsPageAtMost c) t.frames
  pub slots : AllByRecursion (IsSlotAtMost c) t.slots

pub frame_small : (c : Config) (t : Tables) (f : ℕ) → HavePages c t → IsPageAtMost c (frame_at t.frames f)
frame_small c t f pages = all_get (IsPageAtMost c) t.frames f frames.Free pages.frames (omega arith)

pub zeros_small : (c : Config) → length (zeros c) ≤ c.page
zeros_small c = (let same : length (zeros c) ≡ c.page = length-replicate {A = ℕ} c.page 0 in omega (arith, same))

-- how many bytes a trade leaves in a change at most
abbrev pub bytes_most : Config → Change → ℕ
bytes_most c (FrameAt f row) = c.page
bytes_most c (BytesAt f offset bytes) = length bytes
bytes_most c (SlotAt i row) = c.page
bytes_most c (MarkAt f mark) = 0
bytes_most c (ListingAt f listing) = 0
bytes_most c (FrameWithSlot f i) = 0
bytes_most c (OfVm n part) = 0
bytes_most c (VmAt n row) = 0
bytes_most c (TaxIs tau) = 0

pub mark_small : (row : FrameRow) (mark : Mark) → length (bytes_of (mark_traded row mark).0) ≡ length (bytes_of row)
mark_small frames.Free mark = refl
mark_small frames.Overhead mark = refl
mark_small (frames.Private bytes) marks.Private = refl
mark_small (frames.Private bytes) (marks.Shared count) = refl
mark_small (frames.Shared count bytes) marks.Private = refl
mark_small (frames.Shared count bytes) (marks.Shared other) = refl

pub part_small : (row : FrameRow) (offset : ℕ) (new : List ℕ) → length (bytes_of (bytes_traded offset row new).0) ≡ length (bytes_of row)
part_small frames.Free offset new = refl
part_small frames.Overhead offset new = refl
part_small (frames.Private bytes) offset new = length-part_traded bytes offset new
part_small (frames.Shared count bytes) offset new = length-part_traded bytes offset new

as_many : (old : List ℕ) (at : ℕ) (new : List ℕ) → length (part_traded old at new).1 ≡ length new
as_many old at new = of (fits old at new) refl
  where
    room : fits old at new ≡ true → length new ≤ length old - at
    room h = grind (arith, nat_tests)

    same : length new ≤ length old - at → length (take (length new) (drop at old)) ≡ length new
    same len = grind (arith, common_steps)

    of : (b : Bool) → fits old at new ≡ b → length (part_traded old at new).1 ≡ length new
    of true h = (let len = room h in rw (part_fits old at new h) (same len))
    of false h = rw (part_misfits old at new h) refl

pub bytes_kept : (row : FrameRow) (offset : ℕ) (new : List ℕ) → length (bytes_traded offset row new).1 ≡ length new
bytes_kept frames.Free offset new = refl
bytes_kept frames.Overhead offset new = refl
bytes_kept (frames.Private bytes) offset new = as_many bytes offset new
bytes_kept (frames.Shared count bytes) offset new = as_many bytes offset new

slot_small : (c : Config) (row : FrameRow) (slot : SlotRow) → IsPageAtMost c row → IsSlotAtMost c slot → IsPageAtMost c (slot_traded row slot).0 × IsSlotAtMost c (slot_traded row slot).1
slot_small c frames.Free slots.Free small few = (small, few)
slot_small c frames.Free (slots.Held bytes) small few = (few, small)
slot_small c (frames.Private bytes) slots.Free small few = (few, small)
slot_small c (frames.Private bytes) (slots.Held other) small few = (few, small)
slot_small c frames.Overhead slot small few = (small, few)
slot_small c (frames.Shared count bytes) slot small few = (small, few)

none_small : (c : Config) → 0 ≤ c.page
none_small c = omega arith

moved_at : (c : Config) (f : ℕ) (rows : List FrameRow) (slot : SlotRow) → AllByRecursion (IsPageAtMost c) rows → IsSlotAtMost c slot → (b : Bool)
    → let r : List FrameRow × SlotRow = cond b (place_traded slot_traded rows f frames.Free slot) (rows, slot) in AllByRecursion (IsPageAtMost c) r.0 × IsSlotAtMost c r.1
moved_at c f rows slot all few true =
    let one = slot_small c (get_or rows f frames.Free) slot (all_get (IsPageAtMost c) rows f frames.Free all (none_small c)) few in
    (all_set (IsPageAtMost c) rows f (slot_traded (get_or rows f frames.Free) slot).0 all one.0, one.1)
moved_at c f rows slot all few false = (all, few)

moved : (c : Config) (f i : ℕ) (t : Tables) → HavePages c t → (b : Bool)
    → let one : List FrameRow × SlotRow = slot_traded_at f t.frames (slot_at t.slots i) in
    let r : List FrameRow × List SlotRow = cond b (one.0, set t.slots i one.1) (t.frames, t.slots) in
    AllByRecursion (IsPageAtMost c) r.0 × AllByRecursion (IsSlotAtMost c) r.1
moved c f i t pages true =
    let one = moved_at c f t.frames (slot_at t.slots i) pages.frames (all_get (IsSlotAtMost c) t.slots i slots.Free pages.slots (none_small c)) (nat_lt f (length t.frames)) in
    (one.0, all_set (IsSlotAtMost c) t.slots i (slot_traded_at f t.frames (slot_at t.slots i)).1 pages.slots one.1)
moved c f i t pages false = (pages.frames, pages.slots)

one_page : (c : Config) (t : Tables) (change : Change) → HavePages c t → bytes_held change ≤ c.page → HavePages c (traded t change).0 × (bytes_held (traded t change).1 ≤ bytes_most c change)
unfolding traded slots_traded
one_page c t (FrameAt f row) pages small = (record { frames = all_set (IsPageAtMost c) t.frames f row pages.frames small; slots = pages.slots }, all_get (IsPageAtMost c) t.frames f row pages.frames small)
one_page c t (SlotAt i row) pages small = (record { frames = pages.frames; slots = all_set (IsSlotAtMost c) t.slots i row pages.slots small }, all_get (IsSlotAtMost c) t.slots i row pages.slots small)
one_page c t (MarkAt f mark) pages small =
    let row = get_or t.frames f frames.Free in
    let same = mark_small row mark in
    let old = all_get (IsPageAtMost c) t.frames f frames.Free pages.frames (none_small c) in
    (record { frames = all_set (IsPageAtMost c) t.frames f (mark_traded row mark).0 pages.frames (omega (arith, same, old)); slots = pages.slots }, omega arith)
one_page c t (BytesAt f offset bytes) pages small =
    let row = get_or t.frames f frames.Free in
    let same = part_small row offset bytes in
    let old = all_get (IsPageAtMost c) t.frames f frames.Free pages.frames (none_small c) in
    let many = bytes_kept row offset bytes in
    (record { frames = all_set (IsPageAtMost c) t.frames f (bytes_traded offset row bytes).0 pages.frames (omega (arith, same, old)); slots = pages.slots }, omega (arith, many))
one_page c t (FrameWithSlot f i) pages small = (let r = moved c f i t pages (nat_lt i (length t.slots)) in (record { frames = r.0; slots = r.1 }, omega arith))
one_page c t (ListingAt f listing) pages small = (record { frames = pages.frames; slots = pages.slots }, omega arith)
one_page c t (OfVm n part) pages small = (record { frames = pages.frames; slots = pages.slots }, omega arith)
one_page c t (VmAt n row) pages small = (record { frames = pages.frames; slots = pages.slots }, omega arith)
one_page c t (TaxIs tau) pages small = (record { frames = pages.frames; slots = pages.slots }, omega arith)

-- changes that hold a page at most leave as much as their kinds give
pub pages_back : (c : Config) (t : Tables) (changes : List Change) → HavePages c t → total bytes_held changes ≤ c.page → total bytes_held (back t changes) ≤ total (bytes_most c) changes
pages_back c t changes pages small = bounded_back (HavePages c) (λ change. bytes_held change ≤ c.page) bytes_held (bytes_most c) (one_page c) t changes pages (each_within bytes_held c.page changes small)

-- Changes that hold no whole row of a frame or of a slot leave as many bytes as they hold.

abbrev pub whole_rows : Change → ℕ
whole_rows (FrameAt f row) = 1
whole_rows (SlotAt i row) = 1
whole_rows (BytesAt f offset bytes) = 0
whole_rows (MarkAt f mark) = 0
whole_rows (ListingAt f listing) = 0
whole_rows (FrameWithSlot f i) = 0
whole_rows (OfVm n part) = 0
whole_rows (VmAt n row) = 0
whole_rows (TaxIs tau) = 0

one_kept : (t : Tables) (change : Change) → whole_rows change ≡ 0 → bytes_held (traded t change).1 ≡ bytes_held change
unfolding traded
one_kept t (FrameAt f row) none = absurd (omega (arith, none))
one_kept t (SlotAt i row) none = absurd (omega (arith, none))
one_kept t (BytesAt f offset bytes) none = bytes_kept (get_or t.frames f frames.Free) offset bytes
one_kept t (MarkAt f mark) none = refl
one_kept t (ListingAt f listing) none = refl
one_kept t (FrameWithSlot f i) none = refl
one_kept t (OfVm n part) none = refl
one_kept t (VmAt n row) none = refl
one_kept t (TaxIs tau) none = refl

pub bytes_stay : (t : Tables) (changes : List Change) → total whole_rows changes ≡ 0 → total bytes_held (back t changes) ≡ total bytes_held changes
bytes_stay t [] none = refl
bytes_stay t (change ∷ changes) none =
    let split = total_back bytes_held t change changes in
    let one = one_kept t change (omega (arith, none)) in
    let rest = bytes_stay (traded t change).0 changes (omega (arith, none)) in
    omega (arith, split, one, rest)
