-- A machine that leaves.
use Rattle.std.proofs.Common.{ℕ, ◌-◌, ◌||◌, nat_lt, Bool, true, false, List, [], ◌∷◌, length, cond, arith, None}
use Rattle.std.specs.Prelude.{slice_index}
use Rattle.esx_types.specs.declared.config.Config.{Config}
use Rattle.esx_types.specs.declared.table.FrameRow.TheVariants as frames
use Rattle.esx_types.specs.declared.table.MapRow.TheVariants.{Untouched}
use Rattle.esx_types.specs.Pages.{is_here, is_out, page_at}
use Rattle.esx_model.specs.declared.book.VmRow.{VmRow}
use Rattle.esx_model.specs.declared.tables.Tables.{Tables}
use Rattle.esx_model.specs.Tables.{standing_of}
use Rattle.esx_model.specs.event.Leaving.{stop_gate, drop_gate, gone_gate}
use Rattle.esx_tables.specs.declared.change.Change.TheVariants.{FrameAt, OfVm}
use Rattle.esx_tables.specs.declared.change.VmPart.TheVariants.{OverheadTop}
use Rattle.esx_tables.specs.Readings.{row_at}
use Rattle.esx_plans.specs.plan.Leaving.{stop_plan, drop_plan, gone_changes, gone_plan}
use Rattle.esx_records.proofs.Modest.{IsModest, PlansModest, at_row_modest, any_gate}
use Rattle.esx_records.proofs.plans.Leaves.{leaves_modest}

pub stop_small : (c : Config) (t : Tables) (n : ℕ) → PlansModest c 0 (stop_plan t n)
unfolding stop_plan
stop_small c t n = at_row_modest c 0 (row_at t n) _ (λ v there. any_gate c 0 (stop_gate (standing_of v)) _
    (record { bytes = omega arith; pages = omega arith; rows = omega arith; marks = omega arith; turned = omega arith; targets = omega arith; machines = omega arith }))

pub drop_small : (c : Config) (t : Tables) (n page : ℕ) → PlansModest c 0 (drop_plan t n page)
unfolding drop_plan
drop_small c t n page = at_row_modest c 0 (row_at t n) _ (λ v there.
    any_gate c 0 (drop_gate (standing_of v) page (is_here (page_at v.pages page) || is_out (page_at v.pages page))) _ (leaves_modest c t.frames n page (page_at v.pages page) Untouched))

gone_modest : (c : Config) (n : ℕ) (overhead : List ℕ) → IsModest c 1 (gone_changes n overhead)
gone_modest c n [] =
    record { bytes = omega arith; pages = omega arith; rows = omega arith; marks = omega arith; turned = omega arith; targets = omega arith; machines = omega arith }
gone_modest c n (f ∷ fs) =
    record { bytes = omega arith; pages = omega arith; rows = omega arith; marks = omega arith; turned = omega arith; targets = omega arith; machines = omega arith }

given_modest : (c : Config) (n : ℕ) (v : VmRow) (b : Bool)
    → IsModest c 1 (cond b (FrameAt (slice_index v.overhead (length v.overhead - 1)) frames.Free ∷ OfVm n (OverheadTop None) ∷ []) (gone_changes n v.overhead))
given_modest c n v true =
    record { bytes = omega arith; pages = omega arith; rows = omega arith; marks = omega arith; turned = omega arith; targets = omega arith; machines = omega arith }
given_modest c n v false = gone_modest c n v.overhead

pub gone_small : (c : Config) (t : Tables) (n : ℕ) → PlansModest c 1 (gone_plan t n)
unfolding gone_plan
gone_small c t n = at_row_modest c 1 (row_at t n) _ (λ v there. any_gate c 1 (gone_gate (standing_of v)) _ (given_modest c n v (nat_lt 1 (length v.overhead))))
