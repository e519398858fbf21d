-- A page that leaves its place.
use Rattle.std.proofs.Common.{ℕ, ◌-◌, nat_lt, Bool, true, false, List, [], ◌∷◌, ◌++◌, arith, cond}
use Rattle.esx_types.specs.declared.config.Config.{Config}
use Rattle.esx_types.specs.declared.table.FrameRow.{FrameRow}
use Rattle.esx_types.specs.declared.table.FrameRow.TheVariants as frames
use Rattle.esx_types.specs.declared.table.Listing.TheVariants as listings
use Rattle.esx_types.specs.declared.table.MapRow.{MapRow}
use Rattle.esx_types.specs.declared.table.MapRow.TheVariants as maps
use Rattle.esx_types.specs.Frames.{frame_at, ref_count}
use Rattle.esx_frames.specs.declared.marks.Mark.TheVariants as marks
use Rattle.esx_tables.specs.declared.change.Change.TheVariants.{FrameAt, MarkAt, ListingAt, OfVm}
use Rattle.esx_tables.specs.declared.change.VmPart.TheVariants.{PageAt}
use Rattle.esx_changes.specs.Leaves.{page_leaves}
use Rattle.esx_records.proofs.Modest.{IsModest}

frame_leaves : (c : Config) (n page f count : ℕ) (new : MapRow) (b : Bool)
    → IsModest c 0 (cond b (MarkAt f (marks.Shared (count - 1)) ∷ []) (FrameAt f frames.Free ∷ ListingAt f listings.Unlisted ∷ []) ++ OfVm n (PageAt page new) ∷ [])
frame_leaves c n page f count new true =
    record { bytes = omega arith; pages = omega arith; rows = omega arith; marks = omega arith; turned = omega arith; targets = omega arith; machines = omega arith }
frame_leaves c n page f count new false =
    record { bytes = omega arith; pages = omega arith; rows = omega arith; marks = omega arith; turned = omega arith; targets = omega arith; machines = omega arith }

pub leaves_modest : (c : Config) (rows : List FrameRow) (n page : ℕ) (old new : MapRow) → IsModest c 0 (page_leaves rows n page old new)
leaves_modest c rows n page maps.Untouched new =
    record { bytes = omega arith; pages = omega arith; rows = omega arith; marks = omega arith; turned = omega arith; targets = omega arith; machines = omega arith }
leaves_modest c rows n page (maps.Here f) new = frame_leaves c n page f (ref_count (frame_at rows f)) new (nat_lt 1 (ref_count (frame_at rows f)))
leaves_modest c rows n page (maps.Out i) new =
    record { bytes = omega arith; pages = omega arith; rows = omega arith; marks = omega arith; turned = omega arith; targets = omega arith; machines = omega arith }
leaves_modest c rows n page (maps.Lent e) new =
    record { bytes = omega arith; pages = omega arith; rows = omega arith; marks = omega arith; turned = omega arith; targets = omega arith; machines = omega arith }
