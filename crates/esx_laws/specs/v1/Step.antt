-- What an event does by the rules of version 1: those of targets and of hints are its own, all others have stayed.
use Rattle.std.specs.Prelude.{◌≡◌, None}
use Rattle.esx_types.specs.declared.config.Config.{Config}
use Rattle.esx_types.specs.declared.level.Level.{Level}
use Rattle.esx_events.specs.declared.event.Event.{Event}
use Rattle.esx_events.specs.declared.event.Event.TheVariants.{Admit, Rebalance, Scan, SwapOut, SetVmTax}
use Rattle.esx_model.specs.declared.scene.Site.{Site}
use Rattle.esx_model.specs.event.Outcome.{Outcome}
use Rattle.esx_model.specs.Step as now
use Rattle.esx_laws.specs.v1.Rebalancing.{rebalance}
use Rattle.esx_laws.specs.v1.Sharing.{scan}
use Rattle.esx_laws.specs.v1.Paging.{swap_out}

abbrev pub step : Config → Site → Level → Event → Outcome
step c s level Rebalance = rebalance c s level
step c s level (Scan n page) = scan c s n page
step c s level (SwapOut n word) = swap_out c s level n word
step c s level e = now.step c s level e

-- the events of version 1: no machine has a tax of its own
abbrev pub IsOfVersion1 : Event → Type 0
IsOfVersion1 (Admit n spec) = spec.tau ≡ None
IsOfVersion1 (SetVmTax n tau) = ⊥
IsOfVersion1 e = Unit {0}
