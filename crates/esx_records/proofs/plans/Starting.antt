-- A start.
use Rattle.std.proofs.Common.{ℕ, Option, Some, None, arith}
use Rattle.esx_types.specs.declared.config.Config.{Config}
use Rattle.esx_types.specs.Frames.{least_frame}
use Rattle.esx_model.specs.declared.book.VmRow.{VmRow}
use Rattle.esx_model.specs.declared.tables.Tables.{Tables}
use Rattle.esx_model.specs.Tables.{standing_of}
use Rattle.esx_model.specs.event.Starting.{start_gate}
use Rattle.esx_tables.specs.Readings.{row_at}
use Rattle.esx_plans.specs.plan.Starting.{start_from, start_plan}
use Rattle.esx_records.proofs.Modest.{PlansModest, at_row_modest, any_gate}

started_small : (c : Config) (n : ℕ) (v : VmRow) (o : Option ℕ) → PlansModest c 0 (start_from n v o)
started_small c n v None = tt
started_small c n v (Some f) =
    record { bytes = omega arith; pages = omega arith; rows = omega arith; marks = omega arith; turned = omega arith; targets = omega arith; machines = omega arith }

pub start_small : (c : Config) (t : Tables) (n : ℕ) → PlansModest c 0 (start_plan t n)
unfolding start_plan
start_small c t n = at_row_modest c 0 (row_at t n) _ (λ v there. any_gate c 0 (start_gate (standing_of v)) (start_from n v (least_frame t.frames)) (started_small c n v (least_frame t.frames)))
