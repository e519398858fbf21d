-- How often a machine's balloon was reset, at most.
use Rattle.std.specs.Prelude.{◌≡◌, ℕ, ◌+◌, ◌≤◌, List, length, Option, Some, None, slice_index_or, Ok, ⊤}
use Rattle.std.specs.List.{AllByRecursion}
use Rattle.esx_types.specs.declared.config.Config.{Config}
use Rattle.esx_events.specs.declared.event.Answer.{Answer}
use Rattle.esx_events.specs.declared.event.Event.{Event}
use Rattle.esx_model.specs.declared.scene.Vm.{Vm}
use Rattle.esx_model.specs.declared.scene.Site.{Site}
use Rattle.esx_model.specs.declared.scene.Scene.{Scene}
use Rattle.esx_model.specs.declared.book.VmRow.{VmRow}
use Rattle.esx_model.specs.Site.{vm_at}
use Rattle.esx_model.specs.Tables.{tables_of}
use Rattle.esx_model.specs.Replay.{next, run}

abbrev pub IsEpochWithin : ℕ → Option Vm → Type 0
IsEpochWithin k None = ⊤
IsEpochWithin k (Some v) = v.epoch ≤ k

-- each machine had so many resets at most
abbrev pub AreEpochsWithin : ℕ → Site → Type 0
AreEpochsWithin k s = AllByRecursion (IsEpochWithin k) s.vms

-- an event raises each epoch by one at most
abbrev pub IsEpochRaisedOnce : Type 0
IsEpochRaisedOnce = (c : Config) (k : ℕ) (t : Scene) (e : Event) (r : Answer × Scene) → AreEpochsWithin k t.site → next c t e ≡ Ok r → AreEpochsWithin (k + 1) r.1.site

-- so on each path an epoch is at most the number of its events
abbrev pub AreEpochsCounted : Type 0
AreEpochsCounted = (c : Config) (es : List Event) (t : Scene) → run c es ≡ Ok t → AreEpochsWithin (length es) t.site

abbrev pub IsEachEpochCounted : Type 0
IsEachEpochCounted = (c : Config) (es : List Event) (t : Scene) (n : ℕ) (v : Vm) → run c es ≡ Ok t → vm_at t.site n ≡ Some v → v.epoch ≤ length es

-- and the tables of a site have its epochs
abbrev pub AreEpochsShown : Type 0
AreEpochsShown = (c : Config) (k : ℕ) (s : Site) (n : ℕ) (v : VmRow) → AreEpochsWithin k s → slice_index_or (tables_of c s).vms n None ≡ Some v → v.epoch ≤ k
