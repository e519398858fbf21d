-- What the guests of a run read.
use Rattle.std.specs.Prelude.{◌≡◌, ℕ, List, ◌++◌, slice_get, Some}
use Rattle.esx_types.specs.declared.config.Config.{Config}
use Rattle.esx_events.specs.declared.event.Event.{Event}
use Rattle.esx_events.specs.declared.call.Line.{Line}
use Rattle.esx_scenario.specs.declared.plan.Guest as scenario
use Rattle.esx_scenario.specs.Plans.{Plan}
use Rattle.esx_model.specs.Alone.{alone, IsTidy}
use Rattle.esx_opening.specs.Orders.{in_order}
use Rattle.esx_workers.specs.declared.end.End.{End}
use Rattle.esx_workers.specs.declared.end.How.TheVariants.{Done}
use Rattle.esx_model.specs.Guests.{reads_answered, NeverFull}
use Rattle.esx_workers.specs.GuestRuns.{events_of}

-- The accepted reads of a guest's lines answer what they answer alone, as far as they come, and all of it, if it ended done and no node number was wanting.
pub record ReadsAlone (c : Config) (trace : List Event) (end : End) (lines : List Line) : Type 0 where
  pub prefix : (rest : List (List ℕ)) × (reads_answered lines ++ rest ≡ alone c trace)
  pub whole : end.how ≡ Done → NeverFull lines → reads_answered lines ≡ alone c trace

-- the guest at a place, if its trace is tidy
abbrev pub IsAloneAt : Plan → ℕ → End → List Line → Type 0
IsAloneAt p k end lines = (g : scenario.Guest) → slice_get (in_order p.guests) k ≡ Some g → IsTidy p.site (events_of g.vm g.trace) → ReadsAlone p.site (events_of g.vm g.trace) end lines
