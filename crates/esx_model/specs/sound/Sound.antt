-- What every site on a path keeps.
use Rattle.std.specs.Prelude.{◌≡◌, ℕ, ◌≤◌, ◌<◌, length, Some}
use Rattle.esx_types.specs.declared.config.Config.{Config}
use Rattle.esx_types.specs.declared.config.TheConstants.{MAX_TAU, VM_NUMBERS}
use Rattle.esx_events.specs.declared.event.Event.{Event}
use Rattle.esx_events.specs.declared.event.Event.TheVariants.{Admit, Start, Read, Write, Ask, Lend, TakeBack, Sample, Rebalance, Scan, SwapOut, Replace, SetShares, SetTax, SetVmTax, Stop, DropPage, Gone}
use Rattle.esx_model.specs.declared.scene.Vm.{Vm}
use Rattle.esx_model.specs.declared.scene.Site.{Site}
use Rattle.esx_model.specs.Site.{vm_at, place_of, all_places, all_overhead, memory_reserved, swap_reserved}
use Rattle.esx_model.specs.sound.Machines.{IsVm}
use Rattle.esx_model.specs.sound.Frames.{AreFrames}
use Rattle.esx_model.specs.sound.Hints.{AreHints}

pub record IsSound (c : Config) (s : Site) : Type 0 where
  pub vms : length s.vms ≡ VM_NUMBERS
  pub each : (n : ℕ) (v : Vm) → vm_at s n ≡ Some v → IsVm c v
  pub memory : memory_reserved s ≤ c.frames
  pub swap : swap_reserved s ≤ c.slots
  pub tau : s.tau ≤ MAX_TAU
  pub frames : AreFrames c.frames (all_places s) (all_overhead s)
  pub hints : AreHints (place_of s) s.hints

-- each event names a machine by a number that there is
abbrev pub NamesVm : Event → Type 0
NamesVm (Admit n spec) = n < VM_NUMBERS
NamesVm (Start n) = n < VM_NUMBERS
NamesVm (Read n page at len) = n < VM_NUMBERS
NamesVm (Write n page at new) = n < VM_NUMBERS
NamesVm (Ask n) = n < VM_NUMBERS
NamesVm (Lend n page) = n < VM_NUMBERS
NamesVm (TakeBack n page) = n < VM_NUMBERS
NamesVm (Sample n len words) = n < VM_NUMBERS
NamesVm Rebalance = Unit {0}
NamesVm (Scan n page) = n < VM_NUMBERS
NamesVm (SwapOut n word) = n < VM_NUMBERS
NamesVm (Replace n page word) = n < VM_NUMBERS
NamesVm (SetShares n shares) = n < VM_NUMBERS
NamesVm (SetTax tau) = Unit {0}
NamesVm (SetVmTax n tau) = n < VM_NUMBERS
NamesVm (Stop n) = n < VM_NUMBERS
NamesVm (DropPage n page) = n < VM_NUMBERS
NamesVm (Gone n) = n < VM_NUMBERS
