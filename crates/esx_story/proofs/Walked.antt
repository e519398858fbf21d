-- The moments of a path are the path.
use Rattle.std.proofs.Common.{zero, suc, ◌≡◌, ℕ, ◌+◌, List, [], ◌∷◌, ◌++◌, length, take, slice_get, refl, sym, ap, ◌∙◌, subst, cond, Some, Ok}
use Rattle.std.proofs.lemmas.Option.{none-some}
use Rattle.esx_types.specs.declared.config.Config.{Config}
use Rattle.esx_events.specs.declared.event.Event.{Event}
use Rattle.esx_events.specs.declared.event.Answer.{Answer}
use Rattle.esx_model.specs.declared.scene.Scene.{Scene}
use Rattle.esx_model.specs.Replay.{opening, next, after_one, run_from}
use Rattle.esx_story.specs.declared.change.Counts.{Counts}
use Rattle.esx_story.specs.Moments.{Moment, moments_from}
use Rattle.esx_story.specs.Losses.{lost_at}
use Rattle.esx_story.specs.Gains.{gained_at}
use Rattle.esx_story.specs.Counts.{no_counts, counted, counts_after, counts_from, counts}
use Rattle.esx_story.specs.Paths.{AreMoments, DoCountsStartAnew}
use Rattle.esx_model.proofs.Callers.{run_one}
use Rattle.esx_story.proofs.Listed.{one_moment, moments_one}

-- one more event in front
run_more : (c : Config) (i : ℕ) (e : Event) (es : List Event) (t u : Scene) (r : Answer × Scene) → next c t e ≡ Ok r → run_from c (i + 1) es r.1 ≡ Ok u → run_from c i (e ∷ es) t ≡ Ok u
unfolding run_from
run_more c i e es t u r one rest = ap (λ o. after_one i o (λ x. run_from c (i + 1) es x)) one ∙ rest

run_none : (c : Config) (i : ℕ) (t : Scene) → run_from c i [] t ≡ Ok t
unfolding run_from
run_none c i t = refl

pub record IsMomentFrom (c : Config) (i : ℕ) (es : List Event) (t : Scene) (k : ℕ) (x : Moment) : Type 0 where
  pub event : slice_get es k ≡ Some x.event
  pub before : run_from c i (take k es) t ≡ Ok x.before
  pub goes : next c x.before x.event ≡ Ok (x.answer, x.after)
  pub after : run_from c i (take (suc k) es) t ≡ Ok x.after

moment_first : (c : Config) (i : ℕ) (e : Event) (es : List Event) (t : Scene) (r : Answer × Scene) → next c t e ≡ Ok r → IsMomentFrom c i (e ∷ es) t 0 (record { event = e; answer = r.0; before = t; after = r.1 })
moment_first c i e es t r one = record { event = refl; before = run_none c i t; goes = one; after = run_more c i e [] t r.1 r one (run_none c (i + 1) r.1) }

moment_later : (c : Config) (i : ℕ) (e : Event) (es : List Event) (t : Scene) (r : Answer × Scene) (k : ℕ) (x : Moment) → next c t e ≡ Ok r → IsMomentFrom c (i + 1) es r.1 k x → IsMomentFrom c i (e ∷ es) t (suc k) x
moment_later c i e es t r k x one m = record {
  event = m.event;
  before = run_more c i e (take k es) t x.before r one m.before;
  goes = m.goes;
  after = run_more c i e (take (suc k) es) t x.after r one m.after;
}

moment_by : (c : Config) (i : ℕ) (e : Event) (es : List Event) (t : Scene) (r : Answer × Scene) → next c t e ≡ Ok r → ((k : ℕ) (x : Moment) → slice_get (moments_from c es r.1) k ≡ Some x → IsMomentFrom c (i + 1) es r.1 k x)
    → (k : ℕ) (x : Moment) → slice_get (record { event = e; answer = r.0; before = t; after = r.1 } ∷ moments_from c es r.1) k ≡ Some x → IsMomentFrom c i (e ∷ es) t k x
moment_by c i e es t r one rest zero x h = subst (IsMomentFrom c i (e ∷ es) t 0) (one_moment (record { event = e; answer = r.0; before = t; after = r.1 }) x h) (moment_first c i e es t r one)
moment_by c i e es t r one rest (suc k) x h = moment_later c i e es t r k x one (rest k x h)

abbrev Walks : Config → ℕ → List Event → Scene → List Moment → Type 0
Walks c i es t ms = (length ms ≡ length es) × ((k : ℕ) (x : Moment) → slice_get ms k ≡ Some x → IsMomentFrom c i es t k x)

walks : (c : Config) (i : ℕ) (es : List Event) (t u : Scene) → run_from c i es t ≡ Ok u → Walks c i es t (moments_from c es t)
unfolding run_from moments_from
walks c i [] t u h = (refl, λ k x at. absurd (none-some x at))
walks c i (e ∷ es) t u h =
    let one = run_one i (next c t e) (λ x. run_from c (i + 1) es x) u h in
    let r = one.0 in
    let rest = walks c (i + 1) es r.1 u one.2 in
    subst (Walks c i (e ∷ es) t) (sym (moments_one c e es t r one.1)) (ap suc rest.0, moment_by c i e es t r one.1 rest.1)

pub path_told : AreMoments
path_told c es t h =
    let w = walks c 0 es (opening c) t h in
    (w.0, λ k x at. (let m = w.1 k x at in record { event = m.event; before = m.before; goes = m.goes; after = m.after }))

-- Counts.

counts_append : (n : ℕ) (ms : List Moment) (x : Moment) (k : Counts) → counts_from n (ms ++ x ∷ []) k ≡ counts_after n x (counts_from n ms k)
counts_append n [] x k = refl
counts_append n (m ∷ ms) x k = counts_append n ms x (counts_after n m k)

pub anew : DoCountsStartAnew
anew n ms x is =
    let k = counts n ms in
    counts_append n ms x no_counts ∙ ap (λ b. cond b no_counts (counted n (lost_at x) (counted n (gained_at x) k))) is
