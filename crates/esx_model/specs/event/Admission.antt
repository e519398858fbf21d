-- A machine comes, under the reserves (Waldspurger, "Admission Control").
use Rattle.std.specs.Prelude.{ℕ, ◌+◌, ◌-◌, Bool, false, not, nat_lt, [], None, is_some, replicate, Ok, ◌∷◌}
use Rattle.esx_types.specs.declared.vm.VmSpec.{VmSpec}
use Rattle.esx_types.specs.declared.vm.VmState.TheVariants.{Starting}
use Rattle.esx_types.specs.declared.config.Config.{Config}
use Rattle.esx_types.specs.Ranges.{is_good}
use Rattle.esx_events.specs.declared.event.Reserves.{Reserves}
use Rattle.esx_events.specs.declared.event.Answer.TheVariants as answers
use Rattle.esx_events.specs.declared.event.Refusal.TheVariants.{VmThere, BadSpec, NoMemoryReserve, NoSwapReserve}
use Rattle.esx_model.specs.declared.scene.Place.TheVariants.{Untouched}
use Rattle.esx_model.specs.declared.scene.Vm.{Vm}
use Rattle.esx_model.specs.declared.scene.Site.{Site}
use Rattle.esx_model.specs.Site.{vm_at, with_vm, memory_reserved, swap_reserved}
use Rattle.esx_model.specs.event.Outcome.{Outcome, Gate, unless}

-- what would be promised with one more machine
abbrev pub memory_with : Site → VmSpec → ℕ
memory_with s spec = memory_reserved s + (spec.min + spec.overhead)

abbrev pub swap_with : Site → VmSpec → ℕ
swap_with s spec = swap_reserved s + (spec.max - spec.min)

abbrev pub admit_gate : Config → Bool → VmSpec → ℕ → ℕ → Gate
admit_gate c there spec memory swap =
    (there, VmThere) ∷ (not (is_good spec), BadSpec) ∷ (nat_lt c.frames memory, NoMemoryReserve) ∷ (nat_lt c.slots swap, NoSwapReserve) ∷ []

-- what is promised, of all
abbrev pub reserves_in : Config → ℕ → ℕ → Reserves
reserves_in c memory swap = record { memory = memory; frames = c.frames; swap = swap; slots = c.slots }

-- a machine as it is admitted
abbrev pub admitted : VmSpec → Vm
admitted spec = record { spec = spec; state = Starting; epoch = 0; due = false; target = spec.max; overhead = []; places = replicate spec.max Untouched; closed = []; period = None }

unfoldable pub admit : Config → Site → ℕ → VmSpec → Outcome
admit c s n spec =
    unless (admit_gate c (is_some (vm_at s n)) spec (memory_with s spec) (swap_with s spec))
    (Ok (answers.Admitted (reserves_in c (memory_with s spec) (swap_with s spec)), with_vm s n (admitted spec)))
