-- What a frame's row is, and the list of them.
use Rattle.std.specs.Prelude.{ℕ, Bool, true, false, List, [], Option, slice_index_or}
use Rattle.std.specs.List.{position_from}
use Rattle.esx_types.specs.declared.table.FrameRow.{FrameRow}
use Rattle.esx_types.specs.declared.table.FrameRow.TheVariants.{Free, Overhead, Private, Shared}

abbrev pub is_free : FrameRow → Bool
is_free Free = true
is_free Overhead = false
is_free (Private bytes) = false
is_free (Shared count bytes) = false

abbrev pub is_overhead : FrameRow → Bool
is_overhead Free = false
is_overhead Overhead = true
is_overhead (Private bytes) = false
is_overhead (Shared count bytes) = false

abbrev pub is_private : FrameRow → Bool
is_private Free = false
is_private Overhead = false
is_private (Private bytes) = true
is_private (Shared count bytes) = false

abbrev pub is_shared : FrameRow → Bool
is_shared Free = false
is_shared Overhead = false
is_shared (Private bytes) = false
is_shared (Shared count bytes) = true

-- whether a page's bytes stand in the frame
abbrev pub holds_bytes : FrameRow → Bool
holds_bytes Free = false
holds_bytes Overhead = false
holds_bytes (Private bytes) = true
holds_bytes (Shared count bytes) = true

-- these bytes; none where no page stands there
abbrev pub bytes_of : FrameRow → List ℕ
bytes_of Free = []
bytes_of Overhead = []
bytes_of (Private bytes) = bytes
bytes_of (Shared count bytes) = bytes

-- how many pages are mapped to a shared frame; 0 for any other
abbrev pub ref_count : FrameRow → ℕ
ref_count Free = 0
ref_count Overhead = 0
ref_count (Private bytes) = 0
ref_count (Shared count bytes) = count

-- a shared frame with another count; any other row as it is
abbrev pub with_count : FrameRow → ℕ → FrameRow
with_count Free n = Free
with_count Overhead n = Overhead
with_count (Private bytes) n = Private bytes
with_count (Shared count bytes) n = Shared n bytes

-- the row of a frame; past the end it is free
abbrev pub frame_at : List FrameRow → ℕ → FrameRow
frame_at rows f = slice_index_or rows f Free

-- the least frame that is free
abbrev pub least_frame : List FrameRow → Option ℕ
least_frame rows = position_from is_free 0 rows
