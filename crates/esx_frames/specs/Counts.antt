-- How many rows there are of each kind.
use Rattle.std.specs.Prelude.{ℕ, ◌+◌, ◌-◌, List, count_by}
use Rattle.esx_types.specs.declared.table.FrameRow.{FrameRow}
use Rattle.esx_types.specs.declared.table.FrameRow.TheVariants.{Free, Overhead, Private, Shared}
use Rattle.esx_types.specs.Frames.{is_free, is_overhead, is_private, is_shared}
use Rattle.esx_lists.specs.Counts.{one}
use Rattle.esx_frames.specs.declared.counts.Counts.{Counts}

abbrev pub counts_of : List FrameRow → Counts
counts_of rows = record {
  overhead = count_by is_overhead rows;
  private = count_by is_private rows;
  shared = count_by is_shared rows;
  free = count_by is_free rows;
}

-- how many rows of this row's kind were counted
abbrev pub count_like : Counts → FrameRow → ℕ
count_like c Free = c.free
count_like c Overhead = c.overhead
count_like c (Private bytes) = c.private
count_like c (Shared count bytes) = c.shared

-- with one more row
abbrev pub with_row : Counts → FrameRow → Counts
with_row c row = record {
  overhead = c.overhead + one (is_overhead row);
  private = c.private + one (is_private row);
  shared = c.shared + one (is_shared row);
  free = c.free + one (is_free row);
}

-- with one row less
abbrev pub without_row : Counts → FrameRow → Counts
without_row c row = record {
  overhead = c.overhead - one (is_overhead row);
  private = c.private - one (is_private row);
  shared = c.shared - one (is_shared row);
  free = c.free - one (is_free row);
}
