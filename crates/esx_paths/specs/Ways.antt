-- The way from a node up to the opening, as it is told by what made each node.
use Rattle.std.specs.Prelude.{◌≡◌, ◌<◌, ◌≤◌, ◌+◌, ℕ, List, [], ◌∷◌, length, map, reverse, slice_index_or, filter_map}
use Rattle.esx_types.specs.Listings.{in_order}
use Rattle.esx_types.specs.declared.config.Config.{Config}
use Rattle.esx_paths.specs.declared.makers.Maker.{Maker}
use Rattle.esx_paths.specs.declared.makers.RefusedCall.{RefusedCall}
use Rattle.esx_paths.specs.declared.way.Waypoint.{Waypoint}
use Rattle.esx_paths.specs.declared.mets.Met.{Met}
use Rattle.esx_paths.specs.declared.path.Path.{Path}
use Rattle.esx_paths.specs.Paths.{RiseFrom, met_on}
pub use Rattle.esx_paths.specs.Makers.{nobody, maker_at, waypoint_at}

-- each node's parent is older
abbrev pub LeadsUp : List Maker → Type 0
LeadsUp makers = (k : ℕ) → k < length makers → (slice_index_or makers k nobody).parent ≤ k

-- node n, its parent, and so on, up to the opening, which is left out
abbrev pub IsWayUp : List Maker → ℕ → List Waypoint → Type 0
IsWayUp makers n [] = n ≡ 0
IsWayUp makers n (w ∷ ups) = (0 < n) × (w ≡ waypoint_at makers n) × IsWayUp makers (maker_at makers n).parent ups

-- these are the waypoints from the opening down to node n
pub record IsWayTo (makers : List Maker) (n : ℕ) (waypoints : List Waypoint) : Type 0 where
  pub ups : List Waypoint
  pub up : IsWayUp makers n ups
  pub down : waypoints ≡ reverse ups

-- the opening, and nodes that rise
pub record AreDown (nodes : List ℕ) : Type 0 where
  pub later : List ℕ
  pub whole : nodes ≡ 0 ∷ later
  pub rise : RiseFrom 0 later

-- where the refusals were met that were met on nodes, in order of place, and so many others
pub record AreParted (nodes : List ℕ) (refused : List RefusedCall) (mets : List Met) (elsewhere : ℕ) : Type 0 where
  pub on : mets ≡ in_order (λ (m : Met). m.at) (filter_map (met_on nodes) refused)
  pub off : elsewhere + length mets ≡ length refused

-- the path to node n, from what made each node and what was refused
pub record TellsPath (site : Config) (calls : ℕ) (makers : List Maker) (refused : List RefusedCall) (n : ℕ) (told : Path) : Type 0 where
  pub opened : told.site ≡ site
  pub counted : told.calls ≡ calls
  pub nodes : told.nodes ≡ length makers
  pub node_is : told.node ≡ n
  pub way : IsWayTo makers n told.waypoints
  pub parted : AreParted (0 ∷ map (λ (w : Waypoint). w.node) told.waypoints) refused told.mets told.elsewhere
