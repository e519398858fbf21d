-- A path with one more event: what is told along it goes on.
use Rattle.std.proofs.Common.{suc, ◌≡◌, ℕ, ◌+◌, ◌-◌, ◌≤◌, Bool, true, false, List, [], ◌∷◌, ◌++◌, length, map, take, drop, slice_get, append_assoc, refl, sym, ap, ◌∙◌, subst, arith, cond, Option, Some, None, Ok}
use Rattle.std.proofs.lemmas.Option.{slice_get_within}
use Rattle.std.proofs.lemmas.List.{take_all, take-append-le, drop-append-le, drop_all, length-drop, map-append, append-nil}
use Rattle.esx_types.specs.declared.config.Config.{Config}
use Rattle.esx_events.specs.declared.event.Event.{Event}
use Rattle.esx_events.specs.declared.event.Answer.{Answer}
use Rattle.esx_model.specs.declared.scene.Scene.{Scene}
use Rattle.esx_model.specs.Replay.{opening, next, run_from, run}
use Rattle.esx_model.proofs.Callers.{run_one}
use Rattle.esx_story.specs.declared.story.Loss.{Loss}
use Rattle.esx_story.specs.declared.change.Change.{Change}
use Rattle.esx_story.specs.declared.change.Counts.{Counts}
use Rattle.esx_story.specs.Changes.{has_here}
use Rattle.esx_story.specs.Moments.{Moment, moments_from, moments}
use Rattle.esx_story.specs.Losses.{lost_at}
use Rattle.esx_story.specs.Counts.{admits, life_from, counts_after, counts_from}
use Rattle.esx_story.specs.Spans.{is_last, back_from, back, over_from, over, came_as, is_rebalance, set_from, set_at}
use Rattle.esx_story.specs.Waits.{Met, waits, asked_by, asked_since, asked}
use Rattle.esx_story.specs.Story.{told_loss, told_at, told_from, told}
use Rattle.esx_story.proofs.Listed.{moments_one}
use Rattle.esx_story.proofs.Sets.{set_last}
use Rattle.esx_walk.proofs.Lists.{get_front}

abbrev pub moment_of : Event → Answer → Scene → Scene → Moment
moment_of e a t u = record { event = e; answer = a; before = t; after = u }

-- the path has one more moment
more_from : (c : Config) (i : ℕ) (es : List Event) (s t : Scene) (e : Event) (r : Answer × Scene) → run_from c i es s ≡ Ok t → next c t e ≡ Ok r
    → moments_from c (es ++ e ∷ []) s ≡ moments_from c es s ++ moment_of e r.0 t r.1 ∷ []
unfolding run_from moments_from
more_from c i [] s t e r h goes =
    let same : s ≡ t = cc in
    let P : Scene → Type 0 = λ x. next c x e ≡ Ok r → moments_from c (e ∷ []) x ≡ moment_of e r.0 x r.1 ∷ [] in
    let Q : Scene → Type 0 = λ x. moments_from c (e ∷ []) s ≡ moment_of e r.0 x r.1 ∷ [] in
    let R : Scene → Type 0 = λ x. next c x e ≡ Ok r in
    subst Q same (moments_one c e [] s r (subst R (sym same) goes))
more_from c i (x ∷ es) s t e r h goes =
    let one = run_one i (next c s x) (λ y. run_from c (i + 1) es y) t h in
    moments_one c x (es ++ e ∷ []) s one.0 one.1
    ∙ ap (λ ms. moment_of x one.0.0 s one.0.1 ∷ ms) (more_from c (i + 1) es one.0.1 t e r one.2 goes)
    ∙ ap (λ ms. ms ++ moment_of e r.0 t r.1 ∷ []) (sym (moments_one c x es s one.0 one.1))

pub moments_more : (c : Config) (es : List Event) (t : Scene) (e : Event) (r : Answer × Scene) → run c es ≡ Ok t → next c t e ≡ Ok r → moments c (es ++ e ∷ []) ≡ moments c es ++ moment_of e r.0 t r.1 ∷ []
moments_more c es t e r h goes = more_from c 0 es (opening c) t e r h goes

-- When a page is back, and when its machine goes.

abbrev pub back_next : Option ℕ → Option ℕ → Bool → ℕ → Option ℕ
back_next (Some j) o here i = Some j
back_next None (Some j) here i = None
back_next None None here i = cond here (Some i) None

abbrev pub over_next : Option ℕ → Option ℕ → Bool → Bool → ℕ → Option ℕ
over_next (Some j) o here last i = o
over_next None (Some j) here last i = Some j
over_next None None here last i = cond here None (cond last (Some i) None)

back_end : (a b : Bool) (i : ℕ) → cond a (Some i) (cond b None None) ≡ cond a (Some i) None
back_end true b i = refl
back_end false true i = refl
back_end false false i = refl

back_step : (n page k : ℕ) (m x : Moment) (ms : List Moment) (a b : Bool)
    → back_from n page (k + 1) (ms ++ x ∷ []) ≡ back_next (back_from n page (k + 1) ms) (over_from n page (k + 1) ms) (has_here x.after.site n page) (k + 1 + length ms)
    → cond a (Some k) (cond b None (back_from n page (k + 1) (ms ++ x ∷ [])))
    ≡ back_next (cond a (Some k) (cond b None (back_from n page (k + 1) ms))) (cond a None (cond b (Some k) (over_from n page (k + 1) ms))) (has_here x.after.site n page) (k + suc (length ms))
back_step n page k m x ms true b rest = refl
back_step n page k m x ms false true rest = refl
back_step n page k m x ms false false rest =
    rest ∙ ap (back_next (back_from n page (k + 1) ms) (over_from n page (k + 1) ms) (has_here x.after.site n page)) (let e : k + 1 + length ms ≡ k + suc (length ms) = omega arith in e)

back_more : (n page k : ℕ) (ms : List Moment) (x : Moment)
    → back_from n page k (ms ++ x ∷ []) ≡ back_next (back_from n page k ms) (over_from n page k ms) (has_here x.after.site n page) (k + length ms)
back_more n page k [] x =
    back_end (has_here x.after.site n page) (is_last n x.event x.answer) k ∙ ap (λ i. cond (has_here x.after.site n page) (Some i) None) (let e : k ≡ k + 0 = omega arith in e)
back_more n page k (m ∷ ms) x = back_step n page k m x ms (has_here m.after.site n page) (is_last n m.event m.answer) (back_more n page (k + 1) ms x)

over_step : (n page k : ℕ) (m x : Moment) (ms : List Moment) (a b : Bool)
    → over_from n page (k + 1) (ms ++ x ∷ []) ≡ over_next (back_from n page (k + 1) ms) (over_from n page (k + 1) ms) (has_here x.after.site n page) (is_last n x.event x.answer) (k + 1 + length ms)
    → cond a None (cond b (Some k) (over_from n page (k + 1) (ms ++ x ∷ [])))
    ≡ over_next (cond a (Some k) (cond b None (back_from n page (k + 1) ms))) (cond a None (cond b (Some k) (over_from n page (k + 1) ms))) (has_here x.after.site n page) (is_last n x.event x.answer) (k + suc (length ms))
over_step n page k m x ms true b rest = refl
over_step n page k m x ms false true rest = refl
over_step n page k m x ms false false rest =
    rest ∙ ap (over_next (back_from n page (k + 1) ms) (over_from n page (k + 1) ms) (has_here x.after.site n page) (is_last n x.event x.answer)) (let e : k + 1 + length ms ≡ k + suc (length ms) = omega arith in e)

over_more : (n page k : ℕ) (ms : List Moment) (x : Moment)
    → over_from n page k (ms ++ x ∷ []) ≡ over_next (back_from n page k ms) (over_from n page k ms) (has_here x.after.site n page) (is_last n x.event x.answer) (k + length ms)
over_more n page k [] x = ap (λ i. cond (has_here x.after.site n page) None (cond (is_last n x.event x.answer) (Some i) None)) (let e : k ≡ k + 0 = omega arith in e)
over_more n page k (m ∷ ms) x = over_step n page k m x ms (has_here m.after.site n page) (is_last n m.event m.answer) (over_more n page (k + 1) ms x)

-- after a loss of the i-th event of a path
rest_long : (ms : List Moment) (i : ℕ) → i ≤ length ms → i + 1 + length (drop i ms) ≡ length ms + 1
rest_long ms i within = (let long = length-drop i ms in omega (arith, long, within))

pub back_along : (ms : List Moment) (x : Moment) (i n page : ℕ) → i ≤ length ms → back (ms ++ x ∷ []) i n page ≡ back_next (back ms i n page) (over ms i n page) (has_here x.after.site n page) (length ms + 1)
back_along ms x i n page within =
    ap (back_from n page (i + 1)) (drop-append-le i ms (x ∷ []) within) ∙ back_more n page (i + 1) (drop i ms) x
    ∙ ap (back_next (back ms i n page) (over ms i n page) (has_here x.after.site n page)) (rest_long ms i within)

pub over_along : (ms : List Moment) (x : Moment) (i n page : ℕ) → i ≤ length ms
    → over (ms ++ x ∷ []) i n page ≡ over_next (back ms i n page) (over ms i n page) (has_here x.after.site n page) (is_last n x.event x.answer) (length ms + 1)
over_along ms x i n page within =
    ap (over_from n page (i + 1)) (drop-append-le i ms (x ∷ []) within) ∙ over_more n page (i + 1) (drop i ms) x
    ∙ ap (over_next (back ms i n page) (over ms i n page) (has_here x.after.site n page) (is_last n x.event x.answer)) (rest_long ms i within)

-- a loss of the last event has nothing behind it
pub back_none : (ms : List Moment) (i n page : ℕ) → length ms ≤ i → (back ms i n page ≡ None) × (over ms i n page ≡ None)
back_none ms i n page past = (ap (back_from n page (i + 1)) (drop_all i ms past), ap (over_from n page (i + 1)) (drop_all i ms past))

-- Targets in force, and lives.

pub set_more : (n i : ℕ) (last : Option ℕ) (ms : List Moment) (x : Moment)
    → set_from n i last (ms ++ x ∷ []) ≡ cond (admits n x.event) None (cond (is_rebalance x.event) (Some (i + length ms)) (set_from n i last ms))
set_more n i last [] x = ap (λ k. cond (admits n x.event) None (cond (is_rebalance x.event) (Some k) last)) (let e : i ≡ i + 0 = omega arith in e)
set_more n i last (m ∷ ms) x =
    let now = cond (admits n m.event) None (cond (is_rebalance m.event) (Some i) last) in
    set_more n (i + 1) now ms x
    ∙ ap (λ k. cond (admits n x.event) None (cond (is_rebalance x.event) (Some k) (set_from n (i + 1) now ms))) (let e : i + 1 + length ms ≡ i + suc (length ms) = omega arith in e)

-- what the rebalance asked for by which they were set is as it was
asked_same : (ms : List Moment) (x : Moment) (i n : ℕ) (o : Option ℕ) → set_at ms i n ≡ o → asked_since (ms ++ x ∷ []) n o ≡ asked_since ms n o
asked_same ms x i n None is = refl
asked_same ms x i n (Some k) is =
    let s = (set_last ms i n k).0 is in
    let place = s.at.0 in
    let number = s.at.1 in
    let e : k - 1 ≡ place = omega (arith, number) in
    ap (λ j. asked_by n (slice_get (ms ++ x ∷ []) j)) e ∙ ap (asked_by n) (get_front ms x place (slice_get_within ms place s.moment s.at.2)) ∙ ap (λ j. asked_by n (slice_get ms j)) (sym e)

pub asked_still : (ms : List Moment) (x : Moment) (n : ℕ) → asked_since (ms ++ x ∷ []) n (set_from n 1 None ms) ≡ asked_since ms n (set_from n 1 None ms)
asked_still ms x n = asked_same ms x (1 + length ms) n (set_from n 1 None ms) (ap (set_from n 1 None) (take_all (1 + length ms - 1) ms (omega arith)))

pub life_more : (n : ℕ) (ms : List Moment) (x : Moment) (k : ℕ) → life_from n (ms ++ x ∷ []) k ≡ cond (admits n x.event) (life_from n ms k + 1) (life_from n ms k)
life_more n [] x k = refl
life_more n (m ∷ ms) x k = life_more n ms x (cond (admits n m.event) (k + 1) k)

pub counts_more : (n : ℕ) (ms : List Moment) (x : Moment) (k : Counts) → counts_from n (ms ++ x ∷ []) k ≡ counts_after n x (counts_from n ms k)
counts_more n [] x k = refl
counts_more n (m ∷ ms) x k = counts_more n ms x (counts_after n m k)

-- The list of losses.

abbrev pub renewed : List Moment → List Met → Loss → Loss
renewed ms mets l = record l {
  back = back ms l.at l.change.vm l.change.page;
  came = came_as ms l.at l.change.vm l.change.page;
  waits = waits ms mets l.at l.change.vm l.change.page;
}

front_same : (ms : List Moment) (x : Moment) (i : ℕ) → i ≤ length ms → take (i - 1) (ms ++ x ∷ []) ≡ take (i - 1) ms
front_same ms x i within = take-append-le (i - 1) ms (x ∷ []) (omega (arith, within))

asked_front : (ms : List Moment) (x : Moment) (i n : ℕ) → i ≤ length ms → asked (ms ++ x ∷ []) i n ≡ asked ms i n
asked_front ms x i n within = ap (λ (front : List Moment). asked_since (ms ++ x ∷ []) n (set_from n 1 None front)) (front_same ms x i within) ∙ asked_same ms x i n (set_at ms i n) refl

one_told : (c : Config) (ms : List Moment) (x : Moment) (olds mets : List Met) (i : ℕ) (m : Moment) (o : Option Change) → i ≤ length ms
    → told_at c (ms ++ x ∷ []) mets i m o ≡ map (renewed (ms ++ x ∷ []) mets) (told_at c ms olds i m o)
one_told c ms x olds mets i m None within = refl
one_told c ms x olds mets i m (Some y) within =
    let all = ms ++ x ∷ [] in
    let front = take (i - 1) ms in
    ap (λ (some : List Moment). record (told_loss c all mets i m y) { life = life_from y.vm some 0; set = set_from y.vm 1 None some } ∷ []) (front_same ms x i within)
    ∙ ap (λ a. record (told_loss c all mets i m y) { life = life_from y.vm front 0; set = set_from y.vm 1 None front; asked = a } ∷ []) (asked_front ms x i y.vm within)

told_renewed : (c : Config) (ms : List Moment) (x : Moment) (olds mets : List Met) (i : ℕ) (some : List Moment) → i + length some ≤ length ms + 1
    → told_from c (ms ++ x ∷ []) mets i some ≡ map (renewed (ms ++ x ∷ []) mets) (told_from c ms olds i some)
told_renewed c ms x olds mets i [] within = refl
told_renewed c ms x olds mets i (m ∷ some) within =
    ap (λ ls. ls ++ told_from c (ms ++ x ∷ []) mets (i + 1) some) (one_told c ms x olds mets i m (lost_at m) (omega (arith, within)))
    ∙ ap (λ ls. map (renewed (ms ++ x ∷ []) mets) (told_at c ms olds i m (lost_at m)) ++ ls) (told_renewed c ms x olds mets (i + 1) some (omega (arith, within)))
    ∙ sym (map-append (renewed (ms ++ x ∷ []) mets) (told_at c ms olds i m (lost_at m)) (told_from c ms olds (i + 1) some))

told_append : (c : Config) (all : List Moment) (mets : List Met) (i : ℕ) (ms : List Moment) (x : Moment)
    → told_from c all mets i (ms ++ x ∷ []) ≡ told_from c all mets i ms ++ told_at c all mets (i + length ms) x (lost_at x)
told_append c all mets i [] x = append-nil (told_at c all mets i x (lost_at x)) ∙ ap (λ k. told_at c all mets k x (lost_at x)) (let e : i ≡ i + 0 = omega arith in e)
told_append c all mets i (m ∷ ms) x =
    ap (λ ls. told_at c all mets i m (lost_at m) ++ ls) (told_append c all mets (i + 1) ms x
    ∙ ap (λ k. told_from c all mets (i + 1) ms ++ told_at c all mets k x (lost_at x)) (let e : i + 1 + length ms ≡ i + suc (length ms) = omega arith in e))
    ∙ sym (append_assoc (told_at c all mets i m (lost_at m)) (told_from c all mets (i + 1) ms) (told_at c all mets (i + suc (length ms)) x (lost_at x)))

pub told_more : (c : Config) (ms : List Moment) (x : Moment) (mets : List Met)
    → told c (ms ++ x ∷ []) mets ≡ map (renewed (ms ++ x ∷ []) mets) (told c ms mets) ++ told_at c (ms ++ x ∷ []) mets (1 + length ms) x (lost_at x)
told_more c ms x mets =
    told_append c (ms ++ x ∷ []) mets 1 ms x
    ∙ ap (λ ls. ls ++ told_at c (ms ++ x ∷ []) mets (1 + length ms) x (lost_at x)) (told_renewed c ms x mets mets 1 ms (omega arith))
