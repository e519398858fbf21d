-- An admission.
use Rattle.std.proofs.Common.{ℕ, arith, is_some}
use Rattle.esx_types.specs.declared.config.Config.{Config}
use Rattle.esx_types.specs.declared.vm.VmSpec.{VmSpec}
use Rattle.esx_model.specs.declared.tables.Tables.{Tables}
use Rattle.esx_model.specs.event.Admission.{admit_gate}
use Rattle.esx_tables.specs.Readings.{row_at}
use Rattle.esx_plans.specs.plan.Admission.{memory_after, swap_after, admit_plan}
use Rattle.esx_records.proofs.Modest.{PlansModest, any_gate}

pub admit_small : (c : Config) (t : Tables) (n : ℕ) (spec : VmSpec) → PlansModest c 1 (admit_plan c t n spec)
unfolding admit_plan
admit_small c t n spec = any_gate c 1 (admit_gate c (is_some (row_at t n)) spec (memory_after t spec) (swap_after t spec)) _
    (record { bytes = omega arith; pages = omega arith; rows = omega arith; marks = omega arith; turned = omega arith; targets = omega arith; machines = omega arith })
