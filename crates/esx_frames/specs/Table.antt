-- What a table keeps beside its rows.
use Rattle.std.specs.Prelude.{◌≡◌, ◌^◌, ◌<◌, Bool, List, length, map}
use Rattle.esx_types.specs.declared.table.FrameRow.{FrameRow}
use Rattle.esx_types.specs.Frames.{is_free}
use Rattle.esx_frames.specs.Counts.{counts_of}
use Rattle.esx_frames.specs.declared.counts.Counts.{Counts}

-- a row's number fits, the index says which rows are free, and the counts are those of the rows
pub record IsTable (rows : List FrameRow) (index : List Bool) (kept : Counts) : Type 0 where
  pub fits : length rows < 2 ^ 32
  pub free : index ≡ map is_free rows
  pub counts : kept ≡ counts_of rows
