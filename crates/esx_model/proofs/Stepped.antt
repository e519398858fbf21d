-- What an accepted event did: a step of the site, and its path goes on.
use Rattle.std.proofs.Common.{◌≡◌, ℕ, ◌+◌, List, [], ◌∷◌, ◌++◌, length, refl, ap, ◌∙◌, cond, Result, Ok, Err}
use Rattle.esx_types.specs.declared.config.Config.{Config}
use Rattle.esx_types.specs.declared.level.Level.{Level}
use Rattle.esx_events.specs.declared.event.Answer.{Answer}
use Rattle.esx_events.specs.declared.event.Refusal.{Refusal}
use Rattle.esx_events.specs.declared.event.Event.{Event}
use Rattle.esx_formulas.specs.Level.{next_level}
use Rattle.esx_model.specs.declared.scene.Site.{Site}
use Rattle.esx_model.specs.declared.scene.Scene.{Scene}
use Rattle.esx_model.specs.Site.{free_count}
use Rattle.esx_model.specs.event.Outcome.{Outcome}
use Rattle.esx_model.specs.Step.{step}
use Rattle.esx_model.specs.Replay.{opening, settled, next, after_one, run_from, run}
use Rattle.esx_model.specs.Tree.{path, at}
use Rattle.esx_model.specs.History.{History, cursor, here, done}
use Rattle.esx_model.proofs.Lists.{eqb_same}

abbrev the_scene : Answer × Scene → Result (Answer × Scene) Refusal
the_scene a = Ok a

told : (a b : Answer × Scene) → the_scene a ≡ Ok b → a ≡ b
told a b h = cc

pub stepped : (c : Config) (level : Level) (o : Outcome) (r : Answer × Scene) → settled c level o ≡ Ok r → (q : Answer × Site) × (o ≡ Ok q) × (q.0 ≡ r.0) × (q.1 ≡ r.1.site)
stepped c level (Err e) r h = cc
stepped c level (Ok q) r h =
    let same = told (q.0, record { site = q.1; level = next_level c level (free_count c.frames q.1) }) r h in
    (q, refl, ap (λ (x : Answer × Scene). x.0) same, ap (λ (x : Answer × Scene). x.1.site) same)

-- the step of an accepted event
pub step_of : (c : Config) (t : Scene) (e : Event) (r : Answer × Scene) → next c t e ≡ Ok r → (q : Answer × Site) × (step c t.site t.level e ≡ Ok q) × (q.0 ≡ r.0) × (q.1 ≡ r.1.site)
unfolding next
step_of c t e r h = stepped c t.level (step c t.site t.level e) r h

-- the first event of a path was accepted
pub run_one : (i : ℕ) (o : Result (Answer × Scene) Refusal) (go : Scene → Result Scene (ℕ × Refusal)) (u : Scene) → after_one i o go ≡ Ok u → (r : Answer × Scene) × (o ≡ Ok r) × (go r.1 ≡ Ok u)
run_one i (Err e) go u h = cc
run_one i (Ok r) go u h = (r, refl, h)

run_more : (c : Config) (i : ℕ) (es : List Event) (e : Event) (s t u : Scene) (a : Answer) → run_from c i es s ≡ Ok t → next c t e ≡ Ok (a, u) → run_from c i (es ++ e ∷ []) s ≡ Ok u
unfolding run_from
run_more c i [] e s t u a h n = (let same : s ≡ t = cc in ap (λ x. after_one i (next c x e) (λ y. run_from c (i + 1) [] y)) same ∙ ap (λ o. after_one i o (λ y. run_from c (i + 1) [] y)) n)
run_more c i (x ∷ es) e s t u a h n =
    let one = run_one i (next c s x) (λ y. run_from c (i + 1) es y) t h in
    ap (λ o. after_one i o (λ y. run_from c (i + 1) (es ++ e ∷ []) y)) one.1 ∙ run_more c (i + 1) es e one.0.1 t u a one.2 n

-- an accepted event leads a path on
pub run_one_more : (c : Config) (es : List Event) (e : Event) (t u : Scene) (a : Answer) → run c es ≡ Ok t → next c t e ≡ Ok (a, u) → run c (es ++ e ∷ []) ≡ Ok u
run_one_more c es e t u a h n = run_more c 0 es e (opening c) t u a h n

-- and stands last on the cursor's path
pub here_done : (h : History) (e : Event) → here (done e h) ≡ here h ++ e ∷ []
unfolding done at path
here_done h e = ap (λ b. cond b (path h.nodes (cursor h) ++ e ∷ []) (path h.nodes (length h.nodes + 1))) (eqb_same (length h.nodes + 1))
