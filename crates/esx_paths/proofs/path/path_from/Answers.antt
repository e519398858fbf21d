use Rattle.std.proofs.Common.{List, ◌∷◌, length, map, ap, ◌∙◌, sym, subst, arith}
use Rattle.std.proofs.lemmas.List.{length-map, length-reverse}
use Rattle.esx_paths.specs.declared.makers.Maker.{Maker}
use Rattle.esx_paths.specs.declared.way.Waypoint.{Waypoint}
use Rattle.esx_paths.specs.Paths.{RiseFrom}
use Rattle.esx_paths.specs.Ways.{IsWayUp}
use Rattle.esx_paths.proofs.Rising.{nodes_rise, way_short}
use Rattle.esx_paths.proofs.path.path_from.Goals as goal

pub part-requires-clause-down : goal.part-requires-clause-down
part-requires-clause-down c =
    let way = c.in_ok-waypoints.ensures in
    let P : List Waypoint → Type 0 = λ ws. RiseFrom 0 (map (λ (w : Waypoint). w.node) ws) in
    let Q : List Maker → Type 0 = λ makers. IsWayUp makers c.args.node way.ups in
    record {
      later = map (λ (w : Waypoint). w.node) c.in_ok-waypoints.waypoints.items;
      whole = c.as_slice-3.ensures.value ∙ c.in_ok-line.ensures ∙ ap (λ ws. 0 ∷ map (λ (w : Waypoint). w.node) ws) c.as_slice-2.ensures.value;
      rise = subst P (sym way.down) (nodes_rise _ _ way.ups c.requires.up c.requires.fits (subst Q c.as_slice.ensures.value way.up));
    }

pub part-requires-clause-few : goal.part-requires-clause-few
part-requires-clause-few c =
    let way = c.in_ok-waypoints.ensures in
    let Q : List Maker → Type 0 = λ makers. IsWayUp makers c.args.node way.ups in
    let short = way_short _ _ way.ups c.requires.up c.requires.fits (subst Q c.as_slice.ensures.value way.up) in
    let whole = c.as_slice-3.ensures.value ∙ c.in_ok-line.ensures ∙ ap (λ ws. 0 ∷ map (λ (w : Waypoint). w.node) ws) c.as_slice-2.ensures.value in
    let long = ap length whole in
    let mapped = length-map c.in_ok-waypoints.waypoints.items (λ (w : Waypoint). w.node) in
    let turned = ap length way.down ∙ length-reverse way.ups in
    omega (arith, short, long, mapped, turned)
