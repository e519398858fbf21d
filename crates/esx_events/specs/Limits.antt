-- The calls that a text of a version may have.
use Rattle.std.specs.Prelude.{ℕ, Bool, true, ◌&&◌, nat_lt, Option, Some, None, List}
use Rattle.std.specs.List.{list_all}
use Rattle.esx_types.specs.Versions.{vm_numbers, has_own_taxes}
use Rattle.esx_types.specs.declared.version.Version.{Version}
use Rattle.esx_events.specs.declared.event.Event.{Event}
use Rattle.esx_events.specs.declared.event.Event.TheVariants as event
use Rattle.esx_events.specs.declared.call.Call.{Call}
use Rattle.esx_events.specs.declared.call.Call.TheVariants as call

-- the machine may have this number
abbrev pub has_vm : Version → ℕ → Bool
has_vm version n = nat_lt n (vm_numbers version)

-- a machine may have this tax
abbrev pub has_tax : Version → Option ℕ → Bool
has_tax version None = true
has_tax version (Some tau) = has_own_taxes version

abbrev pub has_event : Version → Event → Bool
has_event version (event.Admit vm spec) = has_vm version vm && has_tax version spec.tau
has_event version (event.Start vm) = has_vm version vm
has_event version (event.Read vm page at len) = has_vm version vm
has_event version (event.Write vm page at bytes) = has_vm version vm
has_event version (event.Ask vm) = has_vm version vm
has_event version (event.Lend vm page) = has_vm version vm
has_event version (event.TakeBack vm page) = has_vm version vm
has_event version (event.Sample vm length words) = has_vm version vm
has_event version event.Rebalance = true
has_event version (event.Scan vm page) = has_vm version vm
has_event version (event.SwapOut vm word) = has_vm version vm
has_event version (event.Replace vm page word) = has_vm version vm
has_event version (event.SetShares vm shares) = has_vm version vm
has_event version (event.SetTax tau) = true
has_event version (event.SetVmTax vm tau) = has_vm version vm && has_own_taxes version
has_event version (event.Stop vm) = has_vm version vm
has_event version (event.DropPage vm page) = has_vm version vm
has_event version (event.Gone vm) = has_vm version vm

abbrev pub has_events : Version → List Event → Bool
has_events version = list_all (has_event version)

abbrev pub has_call : Version → Call → Bool
has_call version (call.Do event) = has_event version event
has_call version (call.Undo count) = true
has_call version (call.Redo count) = true
has_call version (call.Goto node) = true
has_call version (call.Visit name) = true
has_call version (call.Mark name) = true
has_call version (call.Prune node) = true
has_call version (call.WhatIf events) = has_events version events
has_call version call.Sum = true
has_call version call.Table = true
has_call version (call.OfVm vm) = has_vm version vm
has_call version (call.OfPage vm page) = has_vm version vm
has_call version (call.Advise vm page) = has_vm version vm
has_call version call.Stand = true
has_call version call.Marks = true
