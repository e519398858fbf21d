-- Each loss of a path has its waypoint.
use Rattle.std.proofs.Common.{◌≡◌, ℕ, zero, suc, ◌+◌, ◌<◌, ◌≤◌, List, [], ◌∷◌, length, get_or, map, slice_get, is_some, refl, sym, ◌∙◌, ap, subst, arith, Option, Some, None, Ok}
use Rattle.std.specs.Prelude.{option_map, IsSome, All}
use Rattle.std.specs.List.{AllByRecursion}
use Rattle.std.proofs.lemmas.List.Elements.{All-head, All-tail, All-cons}
use Rattle.std.proofs.lemmas.Option.{slice_get-get_or, slice_get_within}
use Rattle.esx_types.specs.declared.config.Config.{Config}
use Rattle.esx_events.specs.declared.event.Event.{Event}
use Rattle.esx_model.specs.declared.scene.Scene.{Scene}
use Rattle.esx_model.specs.Replay.{opening, next, run_from, run}
use Rattle.esx_model.proofs.Callers.{run_one}
use Rattle.esx_story.specs.declared.story.Loss.{Loss}
use Rattle.esx_story.specs.Moments.{moments_from, moments}
use Rattle.esx_story.specs.Waits as story
use Rattle.esx_story.proofs.Listed.{moments_one}
use Rattle.esx_walk.specs.Walks.{Walked, IsWalk}
use Rattle.esx_walk.specs.Complete.{AreAllLosses}
use Rattle.esx_paths.specs.declared.way.Waypoint.{Waypoint}
use Rattle.esx_report.specs.declared.losses.LossLine.{LossLine}
use Rattle.esx_account.specs.Lines.{waypoint_numbered, line_at, told_line, AreLinesOf}

-- a path has a moment for each of its events
long_from : (c : Config) (k : ℕ) (es : List Event) (s t : Scene) → run_from c k es s ≡ Ok t → length (moments_from c es s) ≡ length es
unfolding run_from moments_from
long_from c k [] s t runs = refl
long_from c k (e ∷ es) s t runs =
    let one = run_one k (next c s e) (λ u. run_from c (k + 1) es u) t runs in
    ap length (moments_one c e es s one.0 one.1) ∙ ap suc (long_from c (k + 1) es one.0.1 t one.2)

is_there : (waypoints : List Waypoint) (at : ℕ) → 0 < at → at ≤ length waypoints → IsSome (waypoint_numbered waypoints at)
is_there waypoints zero some fits = absurd (omega arith)
is_there waypoints (suc k) some fits = ap is_some (slice_get-get_or waypoints k (record { node = 0; call = 0; caller = 0 }) (omega arith))

pub moments_long : (c : Config) (es : List Event) (t : Scene) → run c es ≡ Ok t → length (moments c es) ≡ length es
moments_long c es t runs = long_from c 0 es (opening c) t runs

-- the waypoint of the event with which a loss came
pub loss_there : (site : Config) (es : List Event) (mets : List story.Met) (w : Walked) (waypoints : List Waypoint) (losses : List Loss) (k : ℕ) (l : Loss) → IsWalk site es mets w → length es ≡ length waypoints
    → AreAllLosses (moments site es) losses → k < length losses → l ≡ get_or losses k l → IsSome (waypoint_numbered waypoints l.at)
loss_there site es mets w waypoints losses k l walk long all below is =
    let there : slice_get losses k ≡ Some l = slice_get-get_or losses k l below ∙ ap (λ x. Some x) (sym is) in
    let loss = (all l.at l.change.vm l.change.page).1 (k, l, there, refl, refl, refl) in
    let at = loss.1 in
    let within = slice_get_within (moments site es) at.0 loss.0 at.2 in
    let many = moments_long site es walk.scene walk.runs in
    let number = at.1 in
    is_there waypoints l.at (omega arith) (omega arith)

-- What holds of losses and of waypoints holds of the lines.

record IsToldBy (o : Option Waypoint) (l : Loss) (line : LossLine) : Type 0 where
  waypoint : Waypoint
  there : o ≡ Some waypoint
  loss : l ≡ line.loss
  call : waypoint.call ≡ line.call

told_by : (o : Option Waypoint) (l : Loss) (line : LossLine) → Some line ≡ option_map (line_at l) o → IsToldBy o l line
told_by None l line is = cc
told_by (Some w) l line is =
    let same = one line (line_at l w) is in
    record { waypoint = w; there = refl; loss = ap (λ (x : LossLine). x.loss) (sym same); call = ap (λ (x : LossLine). x.call) (sym same) }
  where
    one : (x y : LossLine) → Some x ≡ Some y → x ≡ y
    one x y e = cc

-- the first line, and the others
record Parts (waypoints : List Waypoint) (l : Loss) (losses : List Loss) (line : LossLine) (lines : List LossLine) : Type 0 where
  first : Some line ≡ told_line waypoints l
  rest : AreLinesOf waypoints losses lines

parts_of : (waypoints : List Waypoint) (l : Loss) (losses : List Loss) (line : LossLine) (lines : List LossLine) → AreLinesOf waypoints (l ∷ losses) (line ∷ lines) → Parts waypoints l losses line lines
parts_of waypoints l losses line lines are =
    let parts = both (Some line) (told_line waypoints l) (map (λ (x : LossLine). Some x) lines) (map (told_line waypoints) losses) are in
    record { first = parts.0; rest = parts.1 }
  where
    both : (x y : Option LossLine) (xs ys : List (Option LossLine)) → x ∷ xs ≡ y ∷ ys → (x ≡ y) × (xs ≡ ys)
    both x y xs ys e = ((cc), (cc))

none_held : {X : Type 0} (P : X → Type 0) → All P []
none_held P = λ k d below. absurd (omega arith)

pub loss_held : (P : Loss → Type 0) (waypoints : List Waypoint) (losses : List Loss) (lines : List LossLine) → AreLinesOf waypoints losses lines → All P losses → All (λ (line : LossLine). P line.loss) lines
loss_held P waypoints losses [] are all = none_held (λ (line : LossLine). P line.loss)
loss_held P waypoints [] (line ∷ lines) are all = cc
loss_held P waypoints (l ∷ losses) (line ∷ lines) are all =
    let parts = parts_of waypoints l losses line lines are in
    let told = told_by (waypoint_numbered waypoints l.at) l line parts.first in
    All-cons (λ (x : LossLine). P x.loss) line lines (subst P told.loss (All-head P l losses all)) (loss_held P waypoints losses lines parts.rest (All-tail P l losses all))

held_at : (Q : ℕ → Type 0) (waypoints : List Waypoint) (k : ℕ) (w : Waypoint) → AllByRecursion (λ (x : Waypoint). Q x.call) waypoints → slice_get waypoints k ≡ Some w → Q w.call
held_at Q [] k w all there = cc
held_at Q (x ∷ waypoints) zero w all there = subst Q (ap (λ (v : Waypoint). v.call) (one x w there)) all.0
  where
    one : (v u : Waypoint) → Some v ≡ Some u → v ≡ u
    one v u e = cc
held_at Q (x ∷ waypoints) (suc k) w all there = held_at Q waypoints k w all.1 there

held_numbered : (Q : ℕ → Type 0) (waypoints : List Waypoint) (n : ℕ) (w : Waypoint) → AllByRecursion (λ (x : Waypoint). Q x.call) waypoints → waypoint_numbered waypoints n ≡ Some w → Q w.call
held_numbered Q waypoints zero w all there = cc
held_numbered Q waypoints (suc k) w all there = held_at Q waypoints k w all there

pub call_held : (Q : ℕ → Type 0) (waypoints : List Waypoint) (losses : List Loss) (lines : List LossLine) → AreLinesOf waypoints losses lines → AllByRecursion (λ (x : Waypoint). Q x.call) waypoints
    → All (λ (line : LossLine). Q line.call) lines
call_held Q waypoints losses [] are all = none_held (λ (line : LossLine). Q line.call)
call_held Q waypoints [] (line ∷ lines) are all = cc
call_held Q waypoints (l ∷ losses) (line ∷ lines) are all =
    let parts = parts_of waypoints l losses line lines are in
    let told = told_by (waypoint_numbered waypoints l.at) l line parts.first in
    All-cons (λ (x : LossLine). Q x.call) line lines (subst Q told.call (held_numbered Q waypoints l.at told.waypoint all told.there)) (call_held Q waypoints losses lines parts.rest all)
