-- The changes of place on the path to a node of a session, each with its call.
use Rattle.std.specs.Prelude.{◌≡◌, ◌<◌, ℕ, List, [], ◌∷◌, ◌++◌, length, map, Option, Some, option_map, Ok}
use Rattle.esx_types.specs.declared.config.Config.{Config}
use Rattle.esx_types.specs.declared.config.TheConstants.{MAX_NODES}
use Rattle.esx_events.specs.declared.event.Answer.{Answer}
use Rattle.esx_events.specs.declared.event.Event.{Event}
use Rattle.esx_model.specs.declared.scene.Scene.{Scene}
use Rattle.esx_model.specs.Replay.{run}
use Rattle.esx_session.specs.declared.session.Entry.{Entry}
use Rattle.esx_passages.specs.declared.passage.Passage.{Passage}
use Rattle.esx_passages.specs.declared.passage.Passages.{Passages}
use Rattle.esx_passages.specs.Passages.{Passing, passing, passings}
use Rattle.esx_course.specs.Courses.{Coursed, IsCourse, IsTold}
use Rattle.esx_paths.specs.declared.way.Waypoint.{Waypoint}
use Rattle.esx_paths.specs.declared.path.Path.{Path}
use Rattle.esx_report.specs.declared.changes.ChangeLine.{ChangeLine}
use Rattle.esx_account.specs.Account.{moments_to}
use Rattle.esx_account.specs.Lines.{waypoint_numbered}

-- a passage with what is known of its call
abbrev pub change_at : Passing → Waypoint → ChangeLine
change_at z w = record { at = z.at; node = w.node; call = w.call; by = w.caller; passage = z.passage }

-- a passage of a path, with the waypoint of its event
abbrev pub told_change : List Waypoint → Passing → Option ChangeLine
told_change waypoints z = option_map (change_at z) (waypoint_numbered waypoints z.at)

-- these are the lines of the passages of a path, in their order
abbrev pub AreChangesOf : List Waypoint → List Passing → List ChangeLine → Type 0
AreChangesOf waypoints passed lines = map (λ (line : ChangeLine). Some line) lines ≡ map (told_change waypoints) passed

-- these are the lines of all changes of place on the path to a node of a session
abbrev pub AreChangesTo : Config → List Entry → Path → List ChangeLine → Type 0
AreChangesTo c entries way lines = AreChangesOf way.waypoints (passings (moments_to c entries way)) lines

-- a passage of the event of this number
abbrev pub change_line : ℕ → Waypoint → Passage → ChangeLine
change_line at w y = change_at (passing at y) w

-- The course is of some path, on which the event is accepted next.
pub record MayBeMade (k : Coursed) (e : Event) : Type 0 where
  pub site : Config
  pub events : List Event
  pub course : IsCourse site events k
  pub short : length events < MAX_NODES
  pub scene : Scene
  pub runs : run site (events ++ e ∷ []) ≡ Ok scene

-- the event is accepted behind that path, and this is what it moves
abbrev pub MovesSo : Config → List Event → Event → Passages → Type 0
MovesSo site es e passages = (answer : Answer) × IsTold site es e answer passages
