-- A walk along a path of few events, on which few calls were refused.
use Rattle.std.specs.Prelude.{ℕ, ◌≤◌, List, length}
use Rattle.esx_types.specs.declared.config.Config.{Config}
use Rattle.esx_events.specs.declared.event.Event.{Event}
use Rattle.esx_story.specs.Waits.{Met}
use Rattle.esx_walk.specs.Walks.{Walked, IsWalk}

-- there are no more than `most` of each
pub record IsWithin (most : ℕ) (w : Walked) : Type 0 where
  pub config : Config
  pub events : List Event
  pub mets : List Met
  pub walk : IsWalk config events mets w
  pub short : length events ≤ most
  pub few : length mets ≤ most
