-- What each machine holds before a rebalance, and gives with it.
use Rattle.std.specs.Prelude.{ℕ, ◌-◌, max, List, [], ◌∷◌, map, slice_set, Option, Some, None, option_map}
use Rattle.esx_types.specs.declared.level.Level.{Level}
use Rattle.esx_types.specs.declared.level.Level.TheVariants.{High, Soft, Hard, Low}
use Rattle.esx_events.specs.declared.event.Event.{Event}
use Rattle.esx_events.specs.declared.event.Event.TheVariants.{Rebalance}
use Rattle.esx_formulas.specs.declared.targets.Row.{Row}
use Rattle.esx_model.specs.declared.scene.Vm.{Vm}
use Rattle.esx_model.specs.declared.scene.Site.{Site}
use Rattle.esx_model.specs.declared.scene.Scene.{Scene}
use Rattle.esx_model.specs.Site.{vm_at}
use Rattle.esx_story.specs.Waits.{kept, left}
use Rattle.esx_walk.specs.Account.{map_from}

abbrev pub held_at : Level → Site → Option (List ℕ)
held_at High s = None
held_at Soft s = Some (map kept s.vms)
held_at Hard s = Some (map kept s.vms)
held_at Low s = Some (map kept s.vms)

-- what the machine under each number holds, where an event is to ask for frames
abbrev pub held_before : Scene → Event → Option (List ℕ)
held_before t Rebalance = held_at t.level t.site
held_before t _ = None

-- the least that a machine asked for
abbrev pub least : Option Vm → ℕ
least None = 0
least (Some v) = v.spec.min

-- with what the machines of these rows hold
abbrev pub with_rows : Site → List ℕ → List Row → List ℕ
with_rows s held [] = held
with_rows s held (row ∷ rows) = with_rows s (slice_set held row.vm (max row.pages (least (vm_at s row.vm)))) rows

-- what each gave that has its target now
abbrev pub given : Site → List ℕ → List ℕ
given s held = map_from (λ n k. k - left (vm_at s n)) 0 held

abbrev pub given_after : Site → Option (List ℕ) → Option (List ℕ)
given_after s held = option_map (given s) held
