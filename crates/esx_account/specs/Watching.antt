-- The steps of the path to a node of a session.
use Rattle.std.specs.Prelude.{◌≡◌, ◌<◌, List, [], ◌∷◌, ◌++◌, length, map, Option, Some, None, Ok}
use Rattle.esx_types.specs.declared.config.Config.{Config}
use Rattle.esx_types.specs.declared.config.TheConstants.{MAX_NODES}
use Rattle.esx_events.specs.declared.event.Event.{Event}
use Rattle.esx_model.specs.declared.scene.Scene.{Scene}
use Rattle.esx_model.specs.Replay.{run}
use Rattle.esx_session.specs.declared.session.Entry.{Entry}
use Rattle.esx_figures.specs.declared.steps.Step.{Step}
use Rattle.esx_figures.specs.Steps.{steps}
use Rattle.esx_watch.specs.Watches.{Watched, IsWatch}
use Rattle.esx_report.specs.declared.steps.StepRow.{StepRow}
use Rattle.esx_paths.specs.declared.way.Waypoint.{Waypoint}
use Rattle.esx_paths.specs.declared.path.Path.{Path}
use Rattle.esx_account.specs.Lines.{waypoint_numbered}
use Rattle.esx_account.specs.Account.{moments_to}

-- The watch is of some path, on which the event is accepted next.
pub record IsGoing (w : Watched) (e : Event) : Type 0 where
  pub config : Config
  pub events : List Event
  pub watch : IsWatch config events w
  pub short : length events < MAX_NODES
  pub scene : Scene
  pub runs : run config (events ++ e ∷ []) ≡ Ok scene

-- a step by the waypoint of its event; the opening has none: it is of node 0, and nobody called for it
abbrev pub row_by : Step → Option Waypoint → StepRow
row_by step None = record { node = 0; by = None; step = step }
row_by step (Some w) = record { node = w.node; by = Some w.caller; step = step }

abbrev pub step_row : List Waypoint → Step → StepRow
step_row waypoints step = row_by step (waypoint_numbered waypoints step.at)

-- the steps of the path to a node
abbrev pub steps_to : Config → List Entry → Path → List StepRow
steps_to c entries way = map (step_row way.waypoints) (steps c (moments_to c entries way))
