-- The plan of an admission.
use Rattle.std.specs.Prelude.{ℕ, ◌+◌, ◌-◌, [], ◌∷◌, Some, is_some, sum_by, Ok}
use Rattle.esx_types.specs.declared.config.Config.{Config}
use Rattle.esx_types.specs.declared.vm.VmSpec.{VmSpec}
use Rattle.esx_events.specs.declared.event.Answer.TheVariants as answers
use Rattle.esx_model.specs.declared.tables.Tables.{Tables}
use Rattle.esx_model.specs.Tables.{vm_table}
use Rattle.esx_model.specs.event.Outcome.{unless}
use Rattle.esx_model.specs.event.Admission.{admit_gate, reserves_in, admitted}
use Rattle.esx_tables.specs.declared.change.Change.TheVariants.{VmAt}
use Rattle.esx_tables.specs.Promised.{memory_of, swap_of}
use Rattle.esx_tables.specs.Readings.{row_at}
use Rattle.esx_changes.specs.Planned.{Planned}

-- what would be promised with one more machine
abbrev pub memory_after : Tables → VmSpec → ℕ
memory_after t spec = sum_by memory_of t.vms + (spec.min + spec.overhead)

abbrev pub swap_after : Tables → VmSpec → ℕ
swap_after t spec = sum_by swap_of t.vms + (spec.max - spec.min)

unfoldable pub admit_plan : Config → Tables → ℕ → VmSpec → Planned
admit_plan c t n spec =
    unless (admit_gate c (is_some (row_at t n)) spec (memory_after t spec) (swap_after t spec))
    (Ok (answers.Admitted (reserves_in c (memory_after t spec) (swap_after t spec)), VmAt n (Some (vm_table (admitted spec))) ∷ []))
