-- The path to a node of a session, surveyed.
use Rattle.std.specs.Prelude.{◌≡◌, ◌<◌, ◌≤◌, ℕ, List, [], ◌∷◌, ◌++◌, length, map, take, Some, Ok}
use Rattle.std.specs.List.{AllByRecursion}
use Rattle.esx_types.specs.declared.config.Config.{Config}
use Rattle.esx_types.specs.declared.config.TheConstants.{MAX_NODES}
use Rattle.esx_events.specs.declared.event.Event.{Event}
use Rattle.esx_model.specs.declared.scene.Scene.{Scene}
use Rattle.esx_model.specs.Replay.{run}
use Rattle.esx_model.specs.Tree.{path}
use Rattle.esx_model.specs.Console.{history}
use Rattle.esx_session.specs.declared.session.Entry.{Entry}
use Rattle.esx_session.specs.declared.session.Request.{Request}
use Rattle.esx_session.specs.Sessions.{request}
use Rattle.esx_check.specs.Again.{made}
use Rattle.esx_story.specs.Waits as story
use Rattle.esx_walk.specs.Walks.{Walked, IsWalk}
use Rattle.esx_survey.specs.Surveys.{Surveyed, IsSurvey}
use Rattle.esx_paths.specs.declared.way.Waypoint.{Waypoint}
use Rattle.esx_paths.specs.declared.mets.Met.{Met}
use Rattle.esx_paths.specs.declared.path.Path.{Path}
use Rattle.esx_paths.specs.Paths.{IsPath}
use Rattle.esx_account.specs.Asking.{event_asked}

-- These are the calls of a session, and what is told of the path to one of its nodes.
pub record IsPathOf (site : Config) (entries : List Entry) (requests : List Request) (told : Path) : Type 0 where
  pub calls : requests ≡ map request entries
  pub path : IsPath (made site entries) told.node told

-- the events of the path
abbrev pub events_to : Config → List Entry → Path → List Event
events_to site entries told = path (history (made site entries)).nodes told.node

-- a refusal as a walk is told of it
abbrev pub met_of : Met → story.Met
met_of m = record { at = m.at; access = m.access; refusal = m.refusal }

-- the refusals that were met on the path
abbrev pub mets_of : Path → List story.Met
mets_of told = map met_of told.mets

-- the survey is of that path, with the refusals that were met on it
abbrev pub SurveysPath : Config → List Entry → Path → Surveyed → Type 0
SurveysPath site entries told s = IsSurvey site (events_to site entries told) (mets_of told) s

-- The walk is of a path that has as many events as these waypoints.
pub record IsAlong (waypoints : List Waypoint) (w : Walked) : Type 0 where
  pub site : Config
  pub events : List Event
  pub mets : List story.Met
  pub walk : IsWalk site events mets w
  pub long : length events ≡ length waypoints

-- the first of these refusals was met at this place or behind it, and each at the place of the one before it or behind it
abbrev pub NeverFall : ℕ → List Met → Type 0
NeverFall low [] = Unit {0}
NeverFall low (m ∷ later) = (low ≤ m.at) × NeverFall m.at later

-- the calls of these waypoints are to make these events
abbrev pub AreEvents : List Request → List Waypoint → List Event → Type 0
AreEvents requests waypoints es = map (λ (w : Waypoint). event_asked requests w.call) waypoints ≡ map (λ (e : Event). Some e) es

-- The calls of these waypoints are to make the events of a path, which a site accepts, and these refusals were met on it, in
-- order of place.
pub record IsWay (site : Config) (requests : List Request) (waypoints : List Waypoint) (mets : List Met) (es : List Event) : Type 0 where
  pub events : AreEvents requests waypoints es
  pub scene : Scene
  pub runs : run site es ≡ Ok scene
  pub short : length es ≤ MAX_NODES
  pub few : length mets ≤ 4294967295
  pub order : NeverFall 0 mets
  pub within : AllByRecursion (λ (m : Met). m.at ≤ length es) mets

-- The survey was told of the refusals before this place among them, and may be told of the others.
pub record MayTell (mets : List Met) (first : ℕ) (s : Surveyed) : Type 0 where
  pub site : Config
  pub events : List Event
  pub survey : IsSurvey site events (map met_of (take first mets)) s
  pub within : first ≤ length mets
  pub few : length mets ≤ 4294967295

-- The survey is of some path, on which the event is accepted next.
pub record IsAccepted (s : Surveyed) (e : Event) : Type 0 where
  pub site : Config
  pub events : List Event
  pub mets : List story.Met
  pub survey : IsSurvey site events mets s
  pub short : length events < MAX_NODES
  pub scene : Scene
  pub runs : run site (events ++ e ∷ []) ≡ Ok scene
