-- Which keys a table keeps of the pages in its frames.
use Rattle.std.specs.Prelude.{ℕ, Bool, List}
use Rattle.esx_types.specs.declared.table.FrameRow.{FrameRow}
use Rattle.esx_types.specs.Frames.{bytes_of, frame_at}
use Rattle.esx_known.specs.Known.{KnowsKeys}
use Rattle.esx_frames.specs.Table.{IsTable}
use Rattle.esx_frames.specs.declared.counts.Counts.{Counts}

-- the bytes in each frame
abbrev pub bytes_in : List FrameRow → ℕ → List ℕ
bytes_in rows f = bytes_of (frame_at rows f)

-- what a table keeps beside its rows, its keys too
pub record IsKeyed (rows : List FrameRow) (index : List Bool) (kept : Counts) (words : List ℕ) : Type 0 where
  pub table : IsTable rows index kept
  pub keys : KnowsKeys (bytes_in rows) words
