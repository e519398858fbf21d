-- Where a path leads, and its moments with one more event.
use Rattle.std.proofs.Common.{◌≡◌, ℕ, ◌+◌, List, [], ◌∷◌, ◌++◌, refl, sym, ap, ◌∙◌, subst, Result, Ok}
use Rattle.esx_types.specs.declared.config.Config.{Config}
use Rattle.esx_events.specs.declared.event.Event.{Event}
use Rattle.esx_events.specs.declared.event.Answer.{Answer}
use Rattle.esx_events.specs.declared.event.Refusal.{Refusal}
use Rattle.esx_model.specs.declared.scene.Scene.{Scene}
use Rattle.esx_model.specs.Replay.{opening, next, run_from, run}
use Rattle.esx_model.proofs.Callers.{run_one, run_one_more}
use Rattle.esx_machine.specs.Machine.{Shows}
use Rattle.esx_story.specs.Moments.{Moment, moments_from, moments}
use Rattle.esx_story.specs.Waits.{Met}
use Rattle.esx_story.proofs.Listed.{moments_one}
use Rattle.esx_walk.specs.Walks.{Walked, IsWalk, IsAnswered}
use Rattle.esx_sums.specs.Lives.{end_from, end_of}

abbrev pub moment_of : Event → Answer → Scene → Scene → Moment
moment_of e a t u = record { event = e; answer = a; before = t; after = u }

-- the path has one more moment
more_from : (c : Config) (i : ℕ) (es : List Event) (s t : Scene) (e : Event) (r : Answer × Scene) → run_from c i es s ≡ Ok t → next c t e ≡ Ok r
    → moments_from c (es ++ e ∷ []) s ≡ moments_from c es s ++ moment_of e r.0 t r.1 ∷ []
unfolding run_from moments_from
more_from c i [] s t e r h goes =
    let same : s ≡ t = cc in
    let P : Scene → Type 0 = λ x. moments_from c (e ∷ []) s ≡ moment_of e r.0 x r.1 ∷ [] in
    let Q : Scene → Type 0 = λ x. next c x e ≡ Ok r in
    subst P same (moments_one c e [] s r (subst Q (sym same) goes))
more_from c i (x ∷ es) s t e r h goes =
    let one = run_one i (next c s x) (λ y. run_from c (i + 1) es y) t h in
    moments_one c x (es ++ e ∷ []) s one.0 one.1
    ∙ ap (λ ms. moment_of x one.0.0 s one.0.1 ∷ ms) (more_from c (i + 1) es one.0.1 t e r one.2 goes)
    ∙ ap (λ ms. ms ++ moment_of e r.0 t r.1 ∷ []) (sym (moments_one c x es s one.0 one.1))

pub moments_more : (c : Config) (es : List Event) (t u : Scene) (e : Event) (a : Answer) → run c es ≡ Ok t → next c t e ≡ Ok (a, u) → moments c (es ++ e ∷ []) ≡ moments c es ++ moment_of e a t u ∷ []
moments_more c es t u e a h goes = more_from c 0 es (opening c) t e (a, u) h goes

pub no_moments : (c : Config) → moments c [] ≡ []
unfolding moments_from
no_moments c = refl

-- its moments lead where it leads
end_from_is : (c : Config) (i : ℕ) (es : List Event) (s t : Scene) → run_from c i es s ≡ Ok t → end_from s (moments_from c es s) ≡ t
unfolding run_from moments_from
end_from_is c i [] s t h = cc
end_from_is c i (e ∷ es) s t h =
    let one = run_one i (next c s e) (λ y. run_from c (i + 1) es y) t h in
    ap (end_from s) (moments_one c e es s one.0 one.1) ∙ end_from_is c (i + 1) es one.0.1 t one.2

pub end_is : (c : Config) (es : List Event) (t : Scene) → run c es ≡ Ok t → end_of c (moments c es) ≡ t
end_is c es t h = end_from_is c 0 es (opening c) t h

-- Where a walk went by one more event.

same_scene : (o : Result Scene (ℕ × Refusal)) (t u : Scene) → o ≡ Ok t → o ≡ Ok u → t ≡ u
same_scene o t u a b = cc

pub record Went (c : Config) (t : Scene) (e : Event) (answer : Answer) (w : Walked) : Type 0 where
  pub after : Scene
  pub goes : next c t e ≡ Ok (answer, after)
  pub shows : Shows w.machine after
  pub config : w.machine.config ≡ c

pub went : (c : Config) (es : List Event) (mets : List Met) (e : Event) (answer : Answer) (w v : Walked) (walk : IsWalk c es mets w) → IsWalk c (es ++ e ∷ []) mets v → IsAnswered c es e answer → Went c walk.scene e answer v
went c es mets e answer w v walk on is =
    let P : Scene → Type 0 = λ x. next c x e ≡ Ok (answer, is.after) in
    let Q : Scene → Type 0 = Shows v.machine in
    let goes : next c walk.scene e ≡ Ok (answer, is.after) = subst P (same_scene (run c es) is.before walk.scene is.runs walk.runs) is.goes in
    let leads = run_one_more c es e walk.scene is.after answer walk.runs goes in
    record { after = is.after; goes = goes; shows = subst Q (same_scene (run c (es ++ e ∷ [])) on.scene is.after on.runs leads) on.shows; config = on.config }
