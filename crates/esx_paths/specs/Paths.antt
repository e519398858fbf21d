-- The path to a node of a session: the calls that made it, and the refusals that were met on it.
use Rattle.std.specs.Prelude.{◌≡◌, ◌<◌, ◌==◌, ℕ, zero, suc, List, [], ◌∷◌, length, map, slice_get, filter_map, count_by, Option, Some, None, option_map, is_some, not}
use Rattle.std.specs.List.{position_from}
use Rattle.esx_types.specs.Listings.{in_order}
use Rattle.esx_events.specs.declared.event.Event.{Event}
use Rattle.esx_events.specs.declared.call.Call.{Call}
use Rattle.esx_events.specs.declared.call.Call.TheVariants as calls
use Rattle.esx_events.specs.declared.call.Line.{Line}
use Rattle.esx_model.specs.Tree.{line, path}
use Rattle.esx_model.specs.Console.{Session, history}
use Rattle.esx_paths.specs.declared.makers.RefusedCall.{RefusedCall}
use Rattle.esx_paths.specs.declared.way.Waypoint.{Waypoint}
use Rattle.esx_paths.specs.declared.mets.Met.{Met}
use Rattle.esx_paths.specs.declared.path.Path.{Path}
use Rattle.esx_paths.specs.Makers.{makers, refusals, waypoint_at}

-- the line of a log that has this number, from 1 on
abbrev pub line_numbered : List Line → ℕ → Option Line
line_numbered log zero = None
line_numbered log (suc k) = slice_get log k

-- the event that a call is to make
abbrev pub event_of : Call → Option Event
event_of (calls.Do e) = Some e
event_of _ = None

abbrev pub event_in : Option Line → Option Event
event_in None = None
event_in (Some x) = event_of x.call

-- the event of the call that has this number, and who made the call
abbrev pub event_by : Session → ℕ → Option Event
event_by s number = event_in (line_numbered s.log number)

abbrev pub caller_by : Session → ℕ → Option ℕ
caller_by s number = option_map (λ (x : Line). x.caller) (line_numbered s.log number)

-- each number is greater than the one before it, and the first than this one
abbrev pub RiseFrom : ℕ → List ℕ → Type 0
RiseFrom low [] = Unit {0}
RiseFrom low (n ∷ later) = (low < n) × RiseFrom n later

-- The waypoints are the nodes that lead to a node, the opening left out, each with the number and the caller of the call that
-- made it, which is one of an event of the path.
pub record IsPathTo (s : Session) (node : ℕ) (waypoints : List Waypoint) : Type 0 where
  pub nodes : map (λ (w : Waypoint). w.node) waypoints ≡ line (history s).nodes node
  pub events : map (λ (w : Waypoint). event_by s w.call) waypoints ≡ map (λ (e : Event). Some e) (path (history s).nodes node)
  pub callers : map (λ (w : Waypoint). caller_by s w.call) waypoints ≡ map (λ (w : Waypoint). Some w.caller) waypoints
  pub rise : RiseFrom 0 (map (λ (w : Waypoint). w.call) waypoints)
  pub made : map (λ (w : Waypoint). waypoint_at (makers s) w.node) waypoints ≡ waypoints

-- the nodes that lead to a node, the opening first
abbrev pub nodes_to : Session → ℕ → List ℕ
nodes_to s node = 0 ∷ line (history s).nodes node

-- a refusal as it was met at one of these nodes, of which the first is at 0
abbrev pub met_on : List ℕ → RefusedCall → Option Met
met_on nodes r = option_map (λ (at : ℕ). record { at = at; access = r.access; refusal = r.refusal }) (position_from (λ n. n == r.node) 0 nodes)

-- the refusals that were met on the way to a node, in order of place on it, and at each place in order of call
abbrev pub mets_on : Session → ℕ → List Met
mets_on s node = in_order (λ (m : Met). m.at) (filter_map (met_on (nodes_to s node)) (refusals s))

-- how many were met elsewhere
abbrev pub mets_off : Session → ℕ → ℕ
mets_off s node = count_by (λ r. not (is_some (met_on (nodes_to s node) r))) (refusals s)

-- what is told of the path to a node of a session
pub record IsPath (s : Session) (node : ℕ) (told : Path) : Type 0 where
  pub opened : told.site ≡ s.site
  pub calls : told.calls ≡ length s.log
  pub nodes : told.nodes ≡ length (history s).nodes
  pub node_is : told.node ≡ node
  pub waypoints : IsPathTo s node told.waypoints
  pub mets : told.mets ≡ mets_on s node
  pub elsewhere : told.elsewhere ≡ mets_off s node
