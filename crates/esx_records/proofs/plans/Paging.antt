-- A page that is paged out.
use Rattle.std.proofs.Common.{ℕ, ◌-◌, ◌≤◌, nat_lt, Bool, true, false, List, length, Option, Some, None, arith, cond}
use Rattle.esx_types.specs.declared.config.Config.{Config}
use Rattle.esx_types.specs.declared.level.Level.{Level}
use Rattle.esx_types.specs.declared.table.FrameRow.{FrameRow}
use Rattle.esx_types.specs.declared.table.FrameRow.TheVariants as frames
use Rattle.esx_types.specs.declared.table.MapRow.{MapRow}
use Rattle.esx_types.specs.declared.table.MapRow.TheVariants as maps
use Rattle.esx_types.specs.Frames.{frame_at}
use Rattle.esx_types.specs.Slots.{least_slot}
use Rattle.esx_types.specs.Pages.{page_at}
use Rattle.esx_model.specs.declared.look.Look.{Look}
use Rattle.esx_model.specs.declared.look.Look.TheVariants.{Already, SharedFrame, OtherPage, Changed, OtherBytes, Nothing}
use Rattle.esx_model.specs.declared.book.VmRow.{VmRow}
use Rattle.esx_model.specs.declared.tables.Tables.{Tables}
use Rattle.esx_model.specs.Tables.{standing_of}
use Rattle.esx_model.specs.event.Paging.{swap_out_gate}
use Rattle.esx_tables.specs.Readings.{row_at}
use Rattle.esx_sharing.specs.Sharing.{key_in, look_in}
use Rattle.esx_changes.specs.Drawn.{drawn_page}
use Rattle.esx_sharing.specs.Paging.{copy_changes, last_changes, out_changes, to_slot, leave_by, leave_row, leave, swap_out_plan}
use Rattle.esx_records.proofs.Pages.{IsPageAtMost, frame_small}
use Rattle.esx_records.proofs.Modest.{IsModest, PlansModest, at_row_modest, any_gate}
use Rattle.esx_records.proofs.Stocks.{AreStocked}
use Rattle.esx_records.proofs.plans.Sharing.{look_modest}

shared_modest : (c : Config) (n page f i count : ℕ) (bytes : List ℕ) → length bytes ≤ c.page → (b : Bool)
    → IsModest c 0 (cond b (copy_changes n page f i (count - 1) bytes) (last_changes n page f i))
shared_modest c n page f i count bytes few true =
    record { bytes = omega (arith, few); pages = omega arith; rows = omega arith; marks = omega arith; turned = omega arith; targets = omega arith; machines = omega arith }
shared_modest c n page f i count bytes few false =
    record { bytes = omega arith; pages = omega arith; rows = omega arith; marks = omega arith; turned = omega arith; targets = omega arith; machines = omega arith }

out_modest : (c : Config) (n page f i : ℕ) (row : FrameRow) → IsPageAtMost c row → IsModest c 0 (out_changes n page f i row)
out_modest c n page f i frames.Free few =
    record { bytes = omega arith; pages = omega arith; rows = omega arith; marks = omega arith; turned = omega arith; targets = omega arith; machines = omega arith }
out_modest c n page f i frames.Overhead few =
    record { bytes = omega arith; pages = omega arith; rows = omega arith; marks = omega arith; turned = omega arith; targets = omega arith; machines = omega arith }
out_modest c n page f i (frames.Private bytes) few =
    record { bytes = omega arith; pages = omega arith; rows = omega arith; marks = omega arith; turned = omega arith; targets = omega arith; machines = omega arith }
out_modest c n page f i (frames.Shared count bytes) few = shared_modest c n page f i count bytes few (nat_lt 1 count)

slot_modest : (c : Config) (n page f : ℕ) (row : FrameRow) (o : Option ℕ) → IsPageAtMost c row → PlansModest c 0 (to_slot n page f row o)
slot_modest c n page f row None few = tt
slot_modest c n page f row (Some i) few = out_modest c n page f i row few

leave_modest : (c : Config) (t : Tables) (n page f : ℕ) (row : FrameRow) (l : Look) → IsPageAtMost c row → PlansModest c 0 (leave_by t n page f row l)
leave_modest c t n page f row (SharedFrame g) few = look_modest c t n page f (key_in row) (SharedFrame g)
leave_modest c t n page f row (OtherPage m q g) few = look_modest c t n page f (key_in row) (OtherPage m q g)
leave_modest c t n page f row Already few = slot_modest c n page f row (least_slot t.slots) few
leave_modest c t n page f row Changed few = slot_modest c n page f row (least_slot t.slots) few
leave_modest c t n page f row OtherBytes few = slot_modest c n page f row (least_slot t.slots) few
leave_modest c t n page f row Nothing few = slot_modest c n page f row (least_slot t.slots) few

row_modest : (c : Config) (t : Tables) (n page : ℕ) (row : MapRow) → AreStocked c t → PlansModest c 0 (leave_row t n page row)
row_modest c t n page maps.Untouched s = tt
row_modest c t n page (maps.Out i) s = tt
row_modest c t n page (maps.Lent e) s = tt
row_modest c t n page (maps.Here f) s = leave_modest c t n page f (frame_at t.frames f) (look_in t n page (frame_at t.frames f)) (frame_small c t f s.pages)

drawn_modest : (c : Config) (t : Tables) (n : ℕ) (v : VmRow) (o : Option ℕ) → AreStocked c t → PlansModest c 0 (leave t n v o)
drawn_modest c t n v None s = tt
drawn_modest c t n v (Some page) s = row_modest c t n page (page_at v.pages page) s

pub swap_out_small : (c : Config) (t : Tables) (level : Level) (n word : ℕ) → AreStocked c t → PlansModest c 0 (swap_out_plan t level n word)
unfolding swap_out_plan
swap_out_small c t level n word s = at_row_modest c 0 (row_at t n) _ (λ v there.
    any_gate c 0 (swap_out_gate level (standing_of v)) (leave t n v (drawn_page v word)) (drawn_modest c t n v (drawn_page v word) s))
