-- Where the bytes of pages and the sample marks are.
use Rattle.std.specs.Prelude.{ℕ, ◌+◌, length, sum_by}
use Rattle.esx_types.specs.Frames.{bytes_of}
use Rattle.esx_types.specs.Slots.{held_bytes}
use Rattle.esx_model.specs.declared.tables.Tables.{Tables}
use Rattle.esx_tables.specs.Sizes.{vm_marks}

-- the bytes of the pages in frames and in slots
abbrev pub bytes_in : Tables → ℕ
bytes_in t = sum_by (λ row. length (bytes_of row)) t.frames + sum_by (λ row. length (held_bytes row)) t.slots

-- the sample marks of all open periods
abbrev pub marks_in : Tables → ℕ
marks_in t = sum_by vm_marks t.vms
