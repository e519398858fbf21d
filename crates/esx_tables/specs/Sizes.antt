-- How much a list of changes holds.
use Rattle.std.specs.Prelude.{ℕ, ◌-◌, ◌^◌, Bool, true, false, min, List, length, Option, Some, None, sum_by, count_by}
use Rattle.esx_types.specs.Frames.{bytes_of}
use Rattle.esx_types.specs.Slots.{held_bytes}
use Rattle.esx_model.specs.declared.book.VmRow.{VmRow}
use Rattle.esx_model.specs.declared.book.PeriodRow.{PeriodRow}
use Rattle.esx_tables.specs.declared.change.VmPart.{VmPart}
use Rattle.esx_tables.specs.declared.change.VmPart.TheVariants.{PageAt, Facts, Target, Period, Done, Touched, Averages, OverheadTop}
use Rattle.esx_tables.specs.declared.record.RecordSize.{RecordSize}
use Rattle.esx_tables.specs.declared.change.Change.{Change}
use Rattle.esx_tables.specs.declared.change.Change.TheVariants.{FrameAt, MarkAt, BytesAt, ListingAt, SlotAt, FrameWithSlot, OfVm, VmAt, TaxIs}

-- bytes of pages
abbrev pub bytes_held : Change → ℕ
bytes_held (FrameAt f row) = length (bytes_of row)
bytes_held (BytesAt f offset bytes) = length bytes
bytes_held (SlotAt i row) = length (held_bytes row)
bytes_held (MarkAt f mark) = 0
bytes_held (ListingAt f listing) = 0
bytes_held (FrameWithSlot f i) = 0
bytes_held (OfVm n part) = 0
bytes_held (VmAt n row) = 0
bytes_held (TaxIs tau) = 0

-- sample marks
abbrev pub mark_count : Option PeriodRow → ℕ
mark_count None = 0
mark_count (Some p) = length p.marks

abbrev pub part_marks : VmPart → ℕ
part_marks (PageAt page row) = 0
part_marks (Facts facts) = 0
part_marks (Target target) = 0
part_marks (Period period) = mark_count period
part_marks (Done done) = 0
part_marks (Touched mark) = 1
part_marks (Averages m) = 0
part_marks (OverheadTop frame) = 0

abbrev pub vm_marks : Option VmRow → ℕ
vm_marks None = 0
vm_marks (Some v) = mark_count v.period

abbrev pub marks_held : Change → ℕ
marks_held (OfVm n part) = part_marks part
marks_held (VmAt n row) = vm_marks row
marks_held (FrameAt f row) = 0
marks_held (BytesAt f offset bytes) = 0
marks_held (SlotAt i row) = 0
marks_held (MarkAt f mark) = 0
marks_held (ListingAt f listing) = 0
marks_held (FrameWithSlot f i) = 0
marks_held (TaxIs tau) = 0

-- a machine's target
abbrev pub is_target_part : VmPart → Bool
is_target_part (Target target) = true
is_target_part (PageAt page row) = false
is_target_part (Facts facts) = false
is_target_part (Period period) = false
is_target_part (Done done) = false
is_target_part (Touched mark) = false
is_target_part (Averages m) = false
is_target_part (OverheadTop frame) = false

abbrev pub is_target : Change → Bool
is_target (OfVm n part) = is_target_part part
is_target (VmAt n row) = false
is_target (FrameAt f row) = false
is_target (BytesAt f offset bytes) = false
is_target (SlotAt i row) = false
is_target (MarkAt f mark) = false
is_target (ListingAt f listing) = false
is_target (FrameWithSlot f i) = false
is_target (TaxIs tau) = false

-- a row, or part of one: all but a target and a sample mark
abbrev pub is_row_part : VmPart → Bool
is_row_part (Target target) = false
is_row_part (Touched mark) = false
is_row_part (PageAt page row) = true
is_row_part (Facts facts) = true
is_row_part (Period period) = true
is_row_part (Done done) = true
is_row_part (Averages m) = true
is_row_part (OverheadTop frame) = true

abbrev pub is_row : Change → Bool
is_row (OfVm n part) = is_row_part part
is_row (VmAt n row) = true
is_row (FrameAt f row) = true
is_row (BytesAt f offset bytes) = true
is_row (SlotAt i row) = true
is_row (MarkAt f mark) = true
is_row (ListingAt f listing) = true
is_row (FrameWithSlot f i) = true
is_row (TaxIs tau) = true

abbrev pub size_of : List Change → RecordSize
size_of changes = record {
  bytes = sum_by bytes_held changes;
  rows = count_by is_row changes;
  marks = sum_by marks_held changes;
  targets = count_by is_target changes;
}

-- a number, or the greatest of 64 bits
abbrev pub fitting : ℕ → ℕ
fitting n = min n (2 ^ 64 - 1)

abbrev pub capped : RecordSize → RecordSize
capped s = record { bytes = fitting s.bytes; rows = fitting s.rows; marks = fitting s.marks; targets = fitting s.targets }
