-- The path that is told of a session is a way that its site accepts.
use Rattle.std.proofs.Common.{◌≡◌, ℕ, ◌+◌, ◌≤◌, List, length, sym, ◌∙◌, ap, subst, arith, Ok, Err, Some, Option, Result, IfOk, ◌<◌, [], ◌∷◌, ◌++◌, take, get_or}
use Rattle.std.specs.Prelude.{IsSome}
use Rattle.std.specs.List.{AllByRecursion}
use Rattle.std.proofs.lemmas.List.{length-map}
use Rattle.esx_types.specs.declared.config.Config.{Config}
use Rattle.esx_types.specs.Ranges.{IsConfig}
use Rattle.esx_events.specs.declared.event.Event.{Event}
use Rattle.esx_model.specs.Tree.{path}
use Rattle.esx_model.specs.Console.{Session, history}
use Rattle.esx_session.specs.declared.session.Entry.{Entry}
use Rattle.esx_session.specs.declared.session.Request.{Request}
use Rattle.esx_check.specs.Again.{made}
use Rattle.esx_story.specs.Waits as story
use Rattle.esx_survey.specs.Surveys.{Surveyed, IsSurvey}
use Rattle.esx_paths.specs.declared.way.Waypoint.{Waypoint}
use Rattle.esx_paths.specs.declared.mets.Met.{Met}
use Rattle.esx_paths.specs.declared.path.Path.{Path}
use Rattle.esx_paths.specs.Paths.{event_by, nodes_to, IsPathTo}
use Rattle.esx_account.specs.Asking.{call_asked, event_asked}
use Rattle.esx_account.specs.Surveying.{IsPathOf, IsWay, IsAlong, AreEvents, NeverFall, events_to}
use Rattle.esx_account.proofs.Placed.{EachWithin, mets_rise, mets_within, mets_few}
use Rattle.esx_account.proofs.Asked.{same_events, all_asked, event_is}
use Rattle.esx_account.proofs.Front.{one_more}
use Rattle.esx_account.proofs.Accepted.{path_leads, path_fits}

abbrev some_event : Event → Option Event
some_event e = Some e

abbrev node_of : Waypoint → ℕ
node_of w = w.node

-- a path has a waypoint for each of its events, and a node
waypoints_long : (s : Session) (node : ℕ) (waypoints : List Waypoint) → IsPathTo s node waypoints → length waypoints ≡ length (path (history s).nodes node)
waypoints_long s node waypoints told =
    let of : Waypoint → Option Event = λ (w : Waypoint). event_by s w.call in
    sym (length-map waypoints of) ∙ ap length told.events ∙ length-map (path (history s).nodes node) some_event

nodes_long : (s : Session) (node : ℕ) (waypoints : List Waypoint) → IsPathTo s node waypoints → length (nodes_to s node) ≡ length (path (history s).nodes node) + 1
nodes_long s node waypoints told =
    let nodes = sym (length-map waypoints node_of) ∙ ap length told.nodes in
    let events = waypoints_long s node waypoints told in
    omega arith

pub along_long : (site : Config) (entries : List Entry) (requests : List Request) (told : Path) → IsPathOf site entries requests told
    → length (path (history (made site entries)).nodes told.node) ≡ length told.waypoints
along_long site entries requests told is = sym (waypoints_long (made site entries) told.node told.waypoints is.path.waypoints)

pub way_of : (site : Config) (entries : List Entry) (requests : List Request) (told : Path) → IsConfig site → told.calls ≤ 4294967295 → IsPathOf site entries requests told
    → IsWay site requests told.waypoints told.mets (path (history (made site entries)).nodes told.node)
way_of site entries requests told good fits is =
    let s = made site entries in
    let es = path (history s).nodes told.node in
    let leads = path_leads site entries told.node in
    let few = mets_few s told.node in
    let calls = is.path.calls in
    let mets = ap length is.path.mets in
    record {
      events = same_events site entries requests told.waypoints is.calls ∙ is.path.waypoints.events;
      scene = leads.scene;
      runs = leads.runs;
      short = path_fits site entries told.node good;
      few = omega arith;
      order = (let P : List Met → Type 0 = NeverFall 0 in subst P (sym is.path.mets) (mets_rise s told.node));
      within = subst (EachWithin (length es)) (sym is.path.mets) (mets_within s told.node (length es) (nodes_long s told.node told.waypoints is.path.waypoints));
    }

-- the same of what is passed on
pub events_passed_on : (requests rs : List Request) (waypoints ws : List Waypoint) (es : List Event) → rs ≡ requests → ws ≡ waypoints → AreEvents requests waypoints es → AreEvents rs ws es
events_passed_on requests rs waypoints ws es r w events =
    let P : List Request → Type 0 = λ x. AreEvents x ws es in
    let Q : List Waypoint → Type 0 = λ x. AreEvents requests x es in
    subst P (sym r) (subst Q (sym w) events)

pub passed_on : (site : Config) (requests rs : List Request) (waypoints ws : List Waypoint) (mets ms : List Met) (es : List Event) → rs ≡ requests → ws ≡ waypoints → ms ≡ mets
    → IsWay site requests waypoints mets es → IsWay site rs ws ms es
passed_on site requests rs waypoints ws mets ms es r w m way =
    let P : List Request → Type 0 = λ x. IsWay site x ws ms es in
    let Q : List Waypoint → Type 0 = λ x. IsWay site requests x ms es in
    let R : List Met → Type 0 = λ x. IsWay site requests waypoints x es in
    subst P (sym r) (subst Q (sym w) (subst R (sym m) way))

pub goes_along : {E : Type 0} (site : Config) (es : List Event) (mets : List story.Met) (waypoints : List Waypoint) (r : Result Surveyed E) → length es ≡ length waypoints
    → IfOk r (λ s. IsSurvey site es mets s) → IfOk r (λ s. IsAlong waypoints s.walk)
goes_along site es mets waypoints (Ok s) long survey = record { site = site; events = es; mets = mets; walk = survey.walk; long = long }
goes_along site es mets waypoints (Err e) long survey = tt

-- the events of a way, one for each waypoint
pub events_long : (requests : List Request) (waypoints : List Waypoint) (es : List Event) → AreEvents requests waypoints es → length waypoints ≡ length es
events_long requests waypoints es events =
    let of : Waypoint → Option Event = λ (w : Waypoint). event_asked requests w.call in
    sym (length-map waypoints of) ∙ ap length events ∙ length-map es some_event

pub way_long : (site : Config) (requests : List Request) (waypoints : List Waypoint) (mets : List Met) (es : List Event) → IsWay site requests waypoints mets es → length waypoints ≡ length es
way_long site requests waypoints mets es way = events_long requests waypoints es way.events

-- the calls of a path's waypoints make its events
pub path_events : (site : Config) (entries : List Entry) (requests : List Request) (told : Path) → IsPathOf site entries requests told → AreEvents requests told.waypoints (events_to site entries told)
path_events site entries requests told is = same_events site entries requests told.waypoints is.calls ∙ is.path.waypoints.events

-- each waypoint's call is one of the session's
pub path_asked : (site : Config) (entries : List Entry) (requests : List Request) (told : Path) → IsPathOf site entries requests told
    → AllByRecursion (λ (w : Waypoint). IsSome (call_asked requests w.call)) told.waypoints
path_asked site entries requests told is =
    all_asked requests told.waypoints (events_to site entries told) (path_events site entries requests told is)

-- one more event of a way was made
pub made_more : (site : Config) (requests : List Request) (waypoints : List Waypoint) (mets : List Met) (es : List Event) (told : List story.Met) (at : ℕ) (d : Waypoint) (e : Event) (s : Surveyed)
    → IsWay site requests waypoints mets es → at < length waypoints → event_asked requests (get_or waypoints at d).call ≡ Some e → IsSurvey site (take at es ++ e ∷ []) told s → IsSurvey site (take (at + 1) es) told s
made_more site requests waypoints mets es told at d e s way below asked survey =
    let P : List Event → Type 0 = λ xs. IsSurvey site xs told s in
    subst P (one_more es at e (event_is requests waypoints es at d e way.events below asked)) survey
