-- A trade leaves a change of the same kind.
use Rattle.std.proofs.Common.{◌≡◌, ℕ, List, [], ◌∷◌, length, length-append, Option, Some, None, refl, ap, get_or, arith}
use Rattle.std.proofs.lemmas.List.Concat.{flat_map-cons}
use Rattle.esx_model.specs.declared.book.VmRow.{VmRow}
use Rattle.esx_model.specs.declared.tables.Tables.{Tables}
use Rattle.esx_tables.specs.declared.change.Change.{Change}
use Rattle.esx_tables.specs.declared.change.Change.TheVariants.{FrameAt, MarkAt, BytesAt, ListingAt, SlotAt, FrameWithSlot, OfVm, VmAt, TaxIs}
use Rattle.esx_tables.specs.declared.change.VmPart.{VmPart}
use Rattle.esx_tables.specs.declared.change.VmPart.TheVariants.{PageAt, Facts, Target, Period, Done, Touched, Averages, OverheadTop}
use Rattle.esx_tables.specs.Changes.{traded}
use Rattle.esx_tables.specs.Machines.{vm_traded}
use Rattle.esx_tables.specs.Sizes.{is_row, is_row_part, is_target, is_target_part}
use Rattle.esx_records.specs.Small.{place_in, places_in}
use Rattle.esx_records.proofs.Totals.{total}

row_part : (o : Option VmRow) (part : VmPart) → is_row_part (vm_traded o part).1 ≡ is_row_part part
row_part None part = refl
row_part (Some v) (PageAt page row) = refl
row_part (Some v) (Facts facts) = refl
row_part (Some v) (Target target) = refl
row_part (Some v) (Period period) = refl
row_part (Some v) (Done done) = refl
row_part (Some v) (Touched mark) = refl
row_part (Some v) (Averages m) = refl
row_part (Some v) (OverheadTop frame) = refl

target_part : (o : Option VmRow) (part : VmPart) → is_target_part (vm_traded o part).1 ≡ is_target_part part
target_part None part = refl
target_part (Some v) (PageAt page row) = refl
target_part (Some v) (Facts facts) = refl
target_part (Some v) (Target target) = refl
target_part (Some v) (Period period) = refl
target_part (Some v) (Done done) = refl
target_part (Some v) (Touched mark) = refl
target_part (Some v) (Averages m) = refl
target_part (Some v) (OverheadTop frame) = refl

pub row_kept : (t : Tables) (change : Change) → is_row (traded t change).1 ≡ is_row change
unfolding traded
row_kept t (FrameAt f row) = refl
row_kept t (MarkAt f mark) = refl
row_kept t (BytesAt f offset bytes) = refl
row_kept t (ListingAt f listing) = refl
row_kept t (SlotAt i row) = refl
row_kept t (FrameWithSlot f i) = refl
row_kept t (OfVm n part) = row_part (get_or t.vms n None) part
row_kept t (VmAt n row) = refl
row_kept t (TaxIs tau) = refl

pub target_kept : (t : Tables) (change : Change) → is_target (traded t change).1 ≡ is_target change
unfolding traded
target_kept t (FrameAt f row) = refl
target_kept t (MarkAt f mark) = refl
target_kept t (BytesAt f offset bytes) = refl
target_kept t (ListingAt f listing) = refl
target_kept t (SlotAt i row) = refl
target_kept t (FrameWithSlot f i) = refl
target_kept t (OfVm n part) = target_part (get_or t.vms n None) part
target_kept t (VmAt n row) = refl
target_kept t (TaxIs tau) = refl

-- how many places of machines a change holds
abbrev pub places_held : Change → ℕ
places_held change = length (place_in change)

pub places_total : (changes : List Change) → length (places_in changes) ≡ total places_held changes
places_total [] = refl
places_total (change ∷ changes) =
    let split = ap length (flat_map-cons place_in change changes) in
    let sum = length-append (place_in change) (places_in changes) in
    let rest = places_total changes in
    omega (arith, split, sum, rest)

pub places_kept : (t : Tables) (change : Change) → places_held (traded t change).1 ≡ places_held change
unfolding traded
places_kept t (FrameAt f row) = refl
places_kept t (MarkAt f mark) = refl
places_kept t (BytesAt f offset bytes) = refl
places_kept t (ListingAt f listing) = refl
places_kept t (SlotAt i row) = refl
places_kept t (FrameWithSlot f i) = refl
places_kept t (OfVm n part) = refl
places_kept t (VmAt n row) = refl
places_kept t (TaxIs tau) = refl
