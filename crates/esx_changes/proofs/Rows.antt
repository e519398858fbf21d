-- Past the end of the frames' rows a frame is free.
use Rattle.std.proofs.Common.{zero, suc, ◌≡◌, ℕ, List, [], ◌∷◌, refl, slice_get, None}
use Rattle.esx_types.specs.declared.table.FrameRow.{FrameRow}
use Rattle.esx_types.specs.declared.table.FrameRow.TheVariants as frames
use Rattle.esx_types.specs.Frames.{frame_at}

pub past_frames : (rows : List FrameRow) (f : ℕ) → slice_get rows f ≡ None → frame_at rows f ≡ frames.Free
past_frames [] f h = refl
past_frames (r ∷ rs) zero h = cc
past_frames (r ∷ rs) (suc f) h = past_frames rs f h
