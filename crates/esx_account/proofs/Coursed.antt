-- The lines of a path that goes on.
use Rattle.std.proofs.Common.{◌≡◌, ℕ, zero, suc, ◌+◌, ◌<◌, List, [], ◌∷◌, ◌++◌, length, map, take, get_or, slice_get, refl, sym, ◌∙◌, ap, subst, arith, Option, Some, None, Ok, append_assoc, append-nil}
use Rattle.std.specs.Prelude.{option_map}
use Rattle.std.proofs.lemmas.List.{map-append}
use Rattle.std.proofs.lemmas.Option.{slice_get-get_or}
use Rattle.esx_types.specs.declared.config.Config.{Config}
use Rattle.esx_events.specs.declared.event.Answer.{Answer}
use Rattle.esx_events.specs.declared.event.Event.{Event}
use Rattle.esx_events.specs.declared.event.Refusal.{Refusal}
use Rattle.esx_model.specs.declared.scene.Scene.{Scene}
use Rattle.esx_model.specs.Replay.{opening, next, run_from, run}
use Rattle.esx_model.proofs.Callers.{run_one}
use Rattle.esx_session.specs.declared.session.Request.{Request}
use Rattle.esx_story.specs.Moments.{Moment, moments_from, moments}
use Rattle.esx_story.proofs.Listed.{moments_one}
use Rattle.esx_passages.specs.declared.passage.Passage.{Passage}
use Rattle.esx_passages.specs.declared.passage.Passages.{Passages}
use Rattle.esx_passages.specs.Passages.{before_rest, in_order, passages, Passing, passing, passings_of, passings_from, passings}
use Rattle.esx_course.specs.Courses.{Coursed, IsCourse, IsTold, IsRefused}
use Rattle.esx_paths.specs.declared.way.Waypoint.{Waypoint}
use Rattle.esx_report.specs.declared.changes.ChangeLine.{ChangeLine}
use Rattle.esx_account.specs.Coursing.{told_change, AreChangesOf, change_line}
use Rattle.esx_account.specs.Lines.{waypoint_numbered}
use Rattle.esx_account.proofs.Front.{not_refused}
use Rattle.esx_account.proofs.Losses.{moments_long}

abbrev moment_of : Event → Answer → Scene → Scene → Moment
moment_of e a t u = record { event = e; answer = a; before = t; after = u }

-- a path with one more moment
more_from : (c : Config) (i : ℕ) (es : List Event) (s t : Scene) (e : Event) (r : Answer × Scene) → run_from c i es s ≡ Ok t → next c t e ≡ Ok r → moments_from c (es ++ e ∷ []) s ≡ moments_from c es s ++ moment_of e r.0 t r.1 ∷ []
unfolding run_from moments_from
more_from c i [] s t e r h goes =
    let same : s ≡ t = cc in
    let P : Scene → Type 0 = λ x. moments_from c (e ∷ []) s ≡ moment_of e r.0 x r.1 ∷ [] in
    let Q : Scene → Type 0 = λ x. next c x e ≡ Ok r in
    subst P same (moments_one c e [] s r (subst Q (sym same) goes))
more_from c i (x ∷ es) s t e r h goes =
    let one = run_one i (next c s x) (λ y. run_from c (i + 1) es y) t h in
    moments_one c x (es ++ e ∷ []) s one.0 one.1
    ∙ ap (λ ms. moment_of x one.0.0 s one.0.1 ∷ ms) (more_from c (i + 1) es one.0.1 t e r one.2 goes)
    ∙ ap (λ ms. ms ++ moment_of e r.0 t r.1 ∷ []) (sym (moments_one c x es s one.0 one.1))

-- one event more
passings_more : (i : ℕ) (ms : List Moment) (x : Moment) → passings_from i (ms ++ x ∷ []) ≡ passings_from i ms ++ passings_of (i + length ms) (passages x)
passings_more i [] x = append-nil (passings_of i (passages x)) ∙ ap (λ k. passings_of k (passages x)) (omega arith)
passings_more i (m ∷ ms) x =
    let here = passings_of i (passages m) in
    let later : i + 1 + length ms ≡ i + length (m ∷ ms) = omega arith in
    ap (λ (rest : List Passing). here ++ rest) (passings_more (i + 1) ms x)
    ∙ sym (append_assoc here (passings_from (i + 1) ms) (passings_of (i + 1 + length ms) (passages x)))
    ∙ ap (λ k. (here ++ passings_from (i + 1) ms) ++ passings_of k (passages x)) later

-- its lines
lines_of : (waypoints : List Waypoint) (k : ℕ) (w : Waypoint) (ys : List Passage) → waypoint_numbered waypoints k ≡ Some w
    → map (λ (line : ChangeLine). Some line) (map (change_line k w) ys) ≡ map (told_change waypoints) (passings_of k ys)
lines_of waypoints k w [] there = refl
lines_of waypoints k w (y ∷ ys) there =
    let some : ChangeLine → Option ChangeLine = λ (line : ChangeLine). Some line in
    ap (λ (o : Option ChangeLine). o ∷ map some (map (change_line k w) ys)) (sym (ap (option_map (λ (v : Waypoint). change_line k v y)) there))
    ∙ ap (λ (os : List (Option ChangeLine)). told_change waypoints (passing k y) ∷ os) (lines_of waypoints k w ys there)

lines_more : (waypoints : List Waypoint) (ms : List Moment) (x : Moment) (w : Waypoint) (lines : List ChangeLine) → AreChangesOf waypoints (passings ms) lines → waypoint_numbered waypoints (1 + length ms) ≡ Some w
    → AreChangesOf waypoints (passings (ms ++ x ∷ [])) (lines ++ map (change_line (1 + length ms) w) (passages x))
lines_more waypoints ms x w lines are there =
    let some : ChangeLine → Option ChangeLine = λ (line : ChangeLine). Some line in
    let k = 1 + length ms in
    let new = map (change_line k w) (passages x) in
    map-append some lines new
    ∙ ap (λ (os : List (Option ChangeLine)). os ++ map some new) are
    ∙ ap (λ (os : List (Option ChangeLine)). map (told_change waypoints) (passings ms) ++ os) (lines_of waypoints k w (passages x) there)
    ∙ sym (map-append (told_change waypoints) (passings ms) (passings_of k (passages x)))
    ∙ ap (map (told_change waypoints)) (sym (passings_more 1 ms x))

-- the waypoint of an event by its number
numbered_at : (waypoints : List Waypoint) (k : ℕ) → waypoint_numbered waypoints (k + 1) ≡ slice_get waypoints k
numbered_at waypoints k = (let next : k + 1 ≡ suc k = omega arith in ap (waypoint_numbered waypoints) next)

-- what an event moved that was made is told, with its waypoint
pub told_more : (site : Config) (es : List Event) (e : Event) (answer : Answer) (moved : Passages) (waypoints : List Waypoint) (d : Waypoint) (lines more : List ChangeLine) → IsTold site es e answer moved → AreChangesOf waypoints (passings (moments site es)) lines
    → length es < length waypoints → more ≡ lines ++ map (change_line (length es + 1) (get_or waypoints (length es) d)) (in_order moved) → AreChangesOf waypoints (passings (moments site (es ++ e ∷ []))) more
told_more site es e answer moved waypoints d lines more told are below is =
    let ms = moments site es in
    let x = moment_of e answer told.before told.after in
    let w = get_or waypoints (length es) d in
    let long : 1 + length ms ≡ length es + 1 = (let same = moments_long site es told.before told.runs in omega (arith, same)) in
    let there : waypoint_numbered waypoints (1 + length ms) ≡ Some w = ap (waypoint_numbered waypoints) long ∙ numbered_at waypoints (length es) ∙ slice_get-get_or waypoints (length es) d below in
    let P : List Moment → Type 0 = λ xs. AreChangesOf waypoints (passings xs) more in
    let Q : List ChangeLine → Type 0 = AreChangesOf waypoints (passings (ms ++ x ∷ [])) in
    let same : lines ++ map (change_line (1 + length ms) w) (passages x) ≡ more =
    ap (λ k. lines ++ map (change_line k w) (passages x)) long ∙ ap (λ (p : Passages). lines ++ map (change_line (length es + 1) w) (in_order p)) (sym told.tells) ∙ sym is in
    subst P (sym (more_from site 0 es (opening site) told.before e (answer, told.after) told.runs told.goes)) (subst Q same (lines_more waypoints ms x w lines are there))

-- a path of no event has none
pub none_told : (site : Config) (waypoints : List Waypoint) → AreChangesOf waypoints (passings (moments site [])) []
unfolding moments_from
none_told site waypoints = refl

-- an event that is accepted next is not refused
pub never_refused : (site : Config) (es : List Event) (e : Event) (r : Refusal) (t : Scene) → run site (es ++ e ∷ []) ≡ Ok t → IsRefused site es e r → ⊥
never_refused site es e r t runs refused = not_refused site es e r t runs (record { before = refused.before; runs = refused.runs; stops = refused.stops })
