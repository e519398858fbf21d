-- The calls that open a site.
use Rattle.std.specs.Prelude.{◌≡◌, List, [], ◌∷◌, ◌++◌, replicate}
use Rattle.std.specs.List.{flat_map}
use Rattle.esx_events.specs.declared.call.Call.TheVariants.{Do}
use Rattle.esx_events.specs.declared.call.Reply.{Reply}
use Rattle.esx_events.specs.declared.call.Said.TheVariants as said
use Rattle.esx_events.specs.declared.event.Answer.{Answer}
use Rattle.esx_events.specs.declared.event.Event.{Event}
use Rattle.esx_events.specs.declared.event.Event.TheVariants.{Admit, Start}
use Rattle.esx_events.specs.declared.event.Refusal.{Refusal}
use Rattle.esx_model.specs.Console.{Session, next_reply, lined}
use Rattle.esx_scenario.specs.declared.plan.Guest.{Guest}
use Rattle.esx_opening.specs.Orders.{in_order}

abbrev pub admit_of : Guest → List Event
admit_of g = Admit g.vm g.spec ∷ []

-- a start for each overhead frame; with the last one the machine runs
abbrev pub starts_of : Guest → List Event
starts_of g = replicate g.spec.overhead (Start g.vm)

-- each machine is admitted, and then each is started, in the order of their numbers
abbrev pub opening_events : List Guest → List Event
opening_events guests = flat_map admit_of (in_order guests) ++ flat_map starts_of (in_order guests)

abbrev pub IsAccepted : Reply → Type 0
IsAccepted reply = (answer : Answer) × (reply.said ≡ said.Done answer)

-- caller 0 made these events happen, one after another
unfoldable pub AreAccepted : List Event → Session → Session → Type 0
AreAccepted [] s t = t ≡ s
AreAccepted (e ∷ es) s t = IsAccepted (next_reply s (Do e)) × AreAccepted es (lined s 0 (Do e)) t

-- one of the events was refused so, and none before it
pub record IsRefusedAt (events : List Event) (s : Session) (e : Refusal) : Type 0 where
  pub before : List Event
  pub event : Event
  pub later : List Event
  pub are : before ++ event ∷ later ≡ events
  pub at : Session
  pub accepted : AreAccepted before s at
  pub refused : (next_reply at (Do event)).said ≡ said.Refused e

-- one of the events was refused so, and that call is the last
abbrev pub EndsRefused : List Event → Session → Session → Refusal → Type 0
EndsRefused events s t e = (r : IsRefusedAt events s e) × (t ≡ lined r.at 0 (Do r.event))

-- the first of the events were accepted, and nothing else was done
pub record AreBegun (events : List Event) (s t : Session) : Type 0 where
  pub before : List Event
  pub later : List Event
  pub are : before ++ later ≡ events
  pub accepted : AreAccepted before s t
