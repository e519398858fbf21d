-- The limits of version 2 leave room for all that is in range.
use Rattle.std.proofs.Common.{◌≡◌, ◌<◌, ℕ, List, [], ◌∷◌, true, refl}
use Rattle.std.specs.Prelude.{Option, None, Some}
use Rattle.std.specs.List.{AllByRecursion}
use Rattle.std.proofs.lemmas.Bool.{lt-ltb}
use Rattle.esx_types.specs.declared.config.TheConstants.{VM_NUMBERS}
use Rattle.esx_types.specs.declared.version.Version.TheVariants.{Two}
use Rattle.esx_events.specs.Limits.{has_vm, has_tax, has_event, has_events, has_call}
use Rattle.esx_events.specs.declared.event.Event.{Event}
use Rattle.esx_events.specs.declared.event.Event.TheVariants as event
use Rattle.esx_events.specs.declared.call.Call.{Call}
use Rattle.esx_events.specs.declared.call.Call.TheVariants as call
use Rattle.esx_words.specs.Commands.{IsEventInRange, IsInRange}
use Rattle.esx_session.specs.declared.session.Entry.{Entry}
use Rattle.esx_session.specs.Sessions.{IsEntry, IsEntryOf}

vm_of_two : (n : ℕ) → n < VM_NUMBERS → has_vm Two n ≡ true
vm_of_two n h = lt-ltb n VM_NUMBERS h

tax_of_two : (tau : Option ℕ) → has_tax Two tau ≡ true
tax_of_two None = refl
tax_of_two (Some tau) = refl

event_of_two : (e : Event) → IsEventInRange e → has_event Two e ≡ true
event_of_two (event.Admit vm spec) r = rw (vm_of_two vm r.0, tax_of_two spec.tau) refl
event_of_two (event.Start vm) r = vm_of_two vm r.0
event_of_two (event.Read vm page at len) r = vm_of_two vm r.0
event_of_two (event.Write vm page at bytes) r = vm_of_two vm r.0
event_of_two (event.Ask vm) r = vm_of_two vm r.0
event_of_two (event.Lend vm page) r = vm_of_two vm r.0
event_of_two (event.TakeBack vm page) r = vm_of_two vm r.0
event_of_two (event.Sample vm length words) r = vm_of_two vm r.0
event_of_two event.Rebalance r = refl
event_of_two (event.Scan vm page) r = vm_of_two vm r.0
event_of_two (event.SwapOut vm word) r = vm_of_two vm r.0
event_of_two (event.Replace vm page word) r = vm_of_two vm r.0
event_of_two (event.SetShares vm shares) r = vm_of_two vm r.0
event_of_two (event.SetTax tau) r = refl
event_of_two (event.SetVmTax vm tau) r = rw (vm_of_two vm r.0) refl
event_of_two (event.Stop vm) r = vm_of_two vm r.0
event_of_two (event.DropPage vm page) r = vm_of_two vm r.0
event_of_two (event.Gone vm) r = vm_of_two vm r.0

events_of_two : (events : List Event) → AllByRecursion IsEventInRange events → has_events Two events ≡ true
events_of_two [] r = refl
events_of_two (e ∷ events) r = rw (event_of_two e r.0, events_of_two events r.1) refl

call_of_two : (c : Call) → IsInRange c → has_call Two c ≡ true
call_of_two (call.Do event) r = event_of_two event r
call_of_two (call.WhatIf events) r = events_of_two events r.1
call_of_two (call.OfVm vm) r = vm_of_two vm r.0
call_of_two (call.OfPage vm page) r = vm_of_two vm r.0
call_of_two (call.Advise vm page) r = vm_of_two vm r.0
call_of_two c r = refl

pub entries_of_two : (entries : List Entry) → AllByRecursion IsEntry entries → AllByRecursion (IsEntryOf Two) entries
entries_of_two [] is = tt
entries_of_two (e ∷ entries) is = (record { entry = is.0; known = is.0.caller; has = call_of_two e.call is.0.call }, entries_of_two entries is.1)
