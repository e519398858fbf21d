-- What is told of a node from what is kept of a session is its path.
use Rattle.std.proofs.Common.{◌≡◌, ℕ, ◌≤◌, List, ◌∷◌, length, map, Some, sym, ◌∙◌, ap, subst, arith}
use Rattle.std.specs.Prelude.{filter_map}
use Rattle.esx_events.specs.declared.event.Event.{Event}
use Rattle.esx_types.specs.Listings.{in_order}
use Rattle.esx_model.specs.Tree.{line, path, IsTree}
use Rattle.esx_model.specs.Console.{Session, history}
use Rattle.esx_paths.specs.declared.mets.Met.{Met}
use Rattle.esx_paths.specs.declared.path.Path.{Path}
use Rattle.esx_paths.specs.declared.way.Waypoint.{Waypoint}
use Rattle.esx_paths.specs.Makers.{makers, refusals, waypoint_at}
use Rattle.esx_paths.specs.Paths.{RiseFrom, IsPathTo, IsPath, event_by, caller_by, met_on, nodes_to, mets_on}
use Rattle.esx_paths.specs.Ways.{LeadsUp, IsWayTo, TellsPath}
use Rattle.esx_paths.proofs.Lists.{in_order_length, mapped_and_not}
use Rattle.esx_paths.proofs.Told.{tells_way, leads_up, calls_rise}
use Rattle.esx_paths.proofs.Rising.{calls_of_way, made_of_way}
use Rattle.esx_paths.proofs.Sessions.{session_told}

pub session_leads_up : (s : Session) → IsTree (history s).nodes → LeadsUp (makers s)
session_leads_up s tree k fits = (let tells = session_told s in leads_up s.log (makers s) (history s).nodes tree tells.told k (omega (arith, tells.long)))

path_told : (s : Session) (node : ℕ) (waypoints : List Waypoint) → IsTree (history s).nodes → node ≤ length (makers s) → IsWayTo (makers s) node waypoints → IsPathTo s node waypoints
path_told s node waypoints tree fits way =
    let tells = session_told s in
    let told = tells_way s.log (makers s) (history s).nodes node way.ups tree tells.told (omega (arith, tells.long)) way.up in
    let rise = calls_of_way (makers s) node way.ups (session_leads_up s tree) (λ i j below within. calls_rise s.log (makers s) (history s).nodes i j tells.told below (omega (arith, tells.long))) fits way.up in
    let P : List Waypoint → Type 0 = λ ws. map (λ (w : Waypoint). w.node) ws ≡ line (history s).nodes node in
    let Q : List Waypoint → Type 0 = λ ws. map (λ (w : Waypoint). event_by s w.call) ws ≡ map (λ (e : Event). Some e) (path (history s).nodes node) in
    let R : List Waypoint → Type 0 = λ ws. map (λ (w : Waypoint). caller_by s w.call) ws ≡ map (λ (w : Waypoint). Some w.caller) ws in
    let U : List Waypoint → Type 0 = λ ws. RiseFrom 0 (map (λ (w : Waypoint). w.call) ws) in
    let M : List Waypoint → Type 0 = λ ws. map (λ (w : Waypoint). waypoint_at (makers s) w.node) ws ≡ ws in
    let down = sym way.down in
    record { nodes = subst P down told.nodes_are; events = subst Q down told.events_are; callers = subst R down told.callers_are; rise = subst U down rise; made = subst M down (made_of_way (makers s) node way.ups way.up) }

pub session_path : (s : Session) (node : ℕ) (told : Path) → IsTree (history s).nodes → node ≤ length (makers s) → TellsPath s.site (length s.log) (makers s) (refusals s) node told → IsPath s node told
session_path s node told tree fits tells =
    let waypoints = path_told s node told.waypoints tree fits tells.way in
    let nodes_are : 0 ∷ map (λ (w : Waypoint). w.node) told.waypoints ≡ nodes_to s node = ap (λ l. 0 ∷ l) waypoints.nodes in
    let mets_are : told.mets ≡ mets_on s node = tells.parted.on ∙ ap (λ l. in_order (λ (m : Met). m.at) (filter_map (met_on l) (refusals s))) nodes_are in
    let all = mapped_and_not (met_on (nodes_to s node)) (refusals s) in
    let placed = in_order_length (λ (m : Met). m.at) (filter_map (met_on (nodes_to s node)) (refusals s)) in
    let long = ap length mets_are in
    let off = tells.parted.off in
    record {
      opened = tells.opened;
      calls = tells.counted;
      nodes = tells.nodes ∙ (session_told s).long;
      node_is = tells.node_is;
      waypoints = waypoints;
      mets = mets_are;
      elsewhere = omega (arith, all, placed, long, off);
    }
