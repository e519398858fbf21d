-- Which machine is the first that is refused as a site is opened.
use Rattle.std.specs.Prelude.{◌≡◌, ℕ, ◌+◌, true, List, [], ◌∷◌, length, Option, Some, None, Result, Ok, Err}
use Rattle.esx_types.specs.declared.config.Config.{Config}
use Rattle.esx_events.specs.declared.event.Answer.{Answer}
use Rattle.esx_events.specs.declared.event.Event.{Event}
use Rattle.esx_events.specs.declared.event.Event.TheVariants.{Admit, Start}
use Rattle.esx_events.specs.declared.event.Refusal.{Refusal}
use Rattle.esx_events.specs.declared.event.Refusal.TheVariants.{Full, NoMemoryReserve, NoSwapReserve}
use Rattle.esx_scenario.specs.declared.plan.Guest.{Guest}
use Rattle.esx_model.specs.event.Admission.{memory_with, swap_with}
use Rattle.esx_model.specs.Memory.{names}
use Rattle.esx_model.specs.History.{History, opened, scene_at, do_event}
use Rattle.esx_console.specs.Calls.{opened_session}
use Rattle.esx_opening.specs.Openings.{opening_events, IsRefusedAt}
use Rattle.esx_refused.specs.declared.coming.Lack.{Lack}
use Rattle.esx_refused.specs.declared.coming.RefusedOpening.{RefusedOpening}

-- so much is asked for, of so much that there is
abbrev pub lack : ℕ → ℕ → Option Lack
lack asked had = Some (record { asked = asked; had = had })

-- what an admission lacks: its node, or what would be promised with its machine
abbrev pub admission_lacks : Config → ℕ → ℕ → ℕ → Refusal → Option Lack
admission_lacks c node memory swap Full = lack node c.nodes
admission_lacks c node memory swap NoMemoryReserve = lack memory c.frames
admission_lacks c node memory swap NoSwapReserve = lack swap c.slots
admission_lacks c node memory swap e = None

-- and a start
abbrev pub start_lacks : Config → ℕ → Refusal → Option Lack
start_lacks c node Full = lack node c.nodes
start_lacks c node e = None

-- the node that one more event would make
abbrev pub next_node : History → ℕ
next_node h = length h.nodes + 1

-- the machine of an admission or a start that is refused
abbrev pub refused_by : History → Event → Refusal → Option RefusedOpening
refused_by h (Admit n spec) e =
    Some (record { vm = n; refusal = e; lack = admission_lacks h.config (next_node h) (memory_with (scene_at h).site spec) (swap_with (scene_at h).site spec) e })
refused_by h (Start n) e = Some (record { vm = n; refusal = e; lack = start_lacks h.config (next_node h) e })
refused_by h event e = None

abbrev pub refused_or : History → Event → Result (Answer × History) Refusal → (History → Option RefusedOpening) → Option RefusedOpening
refused_or h event (Ok r) go = go r.1
refused_or h event (Err e) go = refused_by h event e

-- the machine of the first event that is refused, where each is made to happen after those before it
unfoldable pub refused_from : History → List Event → Option RefusedOpening
refused_from h [] = None
refused_from h (event ∷ later) = refused_or h event (do_event event h) (λ after. refused_from after later)

abbrev pub first_refused : Config → List Guest → Option RefusedOpening
first_refused c guests = refused_from (opened c) (opening_events guests)

-- the opening is refused so at an event of that machine
abbrev pub IsRefusedOf : Config → List Guest → RefusedOpening → Type 0
IsRefusedOf c guests m = (at : IsRefusedAt (opening_events guests) (opened_session c) m.refusal) × (names m.vm at.event ≡ true)
