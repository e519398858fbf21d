-- Paths that go on, that end, and the level at their end.
use Rattle.std.proofs.Common.{◌≡◌, ℕ, ◌+◌, List, [], ◌∷◌, ◌++◌, length, take, drop, refl, sym, ap, ◌∙◌, subst, arith, fold, Result, Ok, Err}
use Rattle.std.proofs.lemmas.List.{take-append-drop}
use Rattle.esx_types.specs.declared.config.Config.{Config}
use Rattle.esx_types.specs.declared.level.Level.{Level}
use Rattle.esx_events.specs.declared.event.Event.{Event}
use Rattle.esx_events.specs.declared.event.Answer.{Answer}
use Rattle.esx_events.specs.declared.event.Refusal.{Refusal}
use Rattle.esx_formulas.specs.Level.{next_level, level_of}
use Rattle.esx_model.specs.declared.scene.Scene.{Scene}
use Rattle.esx_model.specs.Site.{free_count}
use Rattle.esx_model.specs.event.Outcome.{Outcome}
use Rattle.esx_model.specs.Step.{step}
use Rattle.esx_model.specs.Replay.{opening, settled, next, after_one, run_from, run, frees_after, frees_from, frees}

abbrev pub Ran : Type 0
Ran = Result Scene (ℕ × Refusal)

abbrev pub on_scene : Ran → (Scene → Ran) → Ran
on_scene (Err e) go = Err e
on_scene (Ok t) go = go t

pub run_append : (c : Config) (i : ℕ) (es fs : List Event) (t : Scene) → run_from c i (es ++ fs) t ≡ on_scene (run_from c i es t) (λ u. run_from c (i + length es) fs u)
unfolding run_from
run_append c i [] fs t = ap (λ k. run_from c k fs t) (omega arith)
run_append c i (e ∷ es) fs t = append_after c i es fs (next c t e) (λ u. run_append c (i + 1) es fs u ∙ ap (λ k. on_scene (run_from c (i + 1) es u) (λ v. run_from c k fs v)) (let n = length-cons e es in omega arith))
  where
    length-cons : (e : Event) (es : List Event) → length (e ∷ es) ≡ 1 + length es
    length-cons e es = omega arith

    append_after : (c : Config) (i : ℕ) (es fs : List Event) (d : Result (Answer × Scene) Refusal)
        → ((u : Scene) → run_from c (i + 1) (es ++ fs) u ≡ on_scene (run_from c (i + 1) es u) (λ v. run_from c (i + length (e ∷ es)) fs v))
        → after_one i d (λ u. run_from c (i + 1) (es ++ fs) u) ≡ on_scene (after_one i d (λ u. run_from c (i + 1) es u)) (λ v. run_from c (i + length (e ∷ es)) fs v)
    append_after c i es fs (Err r) h = refl
    append_after c i es fs (Ok r) h = h r.1

pub run_one : (c : Config) (i : ℕ) (e : Event) (t u : Scene) (a : Answer) → next c t e ≡ Ok (a, u) → run_from c i (e ∷ []) t ≡ Ok u
unfolding run_from
run_one c i e t u a h = ap (λ d. after_one i d (λ v. run_from c (i + 1) [] v)) h

-- the path with one more event leads to the scene after it
pub run_push : (c : Config) (es : List Event) (e : Event) (t u : Scene) (a : Answer) → run c es ≡ Ok t → next c t e ≡ Ok (a, u) → run c (es ++ e ∷ []) ≡ Ok u
run_push c es e t u a before h =
    run_append c 0 es (e ∷ []) (opening c) ∙ ap (λ d. on_scene d (λ v. run_from c (0 + length es) (e ∷ []) v)) before ∙ run_one c (0 + length es) e t u a h

-- an accepted event leads a path on
pub run_accepted : (c : Config) (path : List Event) (event : Event) (t : Scene) (r : Answer × Scene) → run c path ≡ Ok t → next c t event ≡ Ok r → run c (path ++ event ∷ []) ≡ Ok r.1
run_accepted c path event t r before h = run_push c path event t r.1 r.0 before h

one_refused : (c : Config) (i : ℕ) (event : Event) (t : Scene) (e : Refusal) → next c t event ≡ Err e → run_from c i (event ∷ []) t ≡ Err (i, e)
unfolding run_from
one_refused c i event t e h = ap (λ d. after_one i d (λ v. run_from c (i + 1) [] v)) h

-- a refused event ends a path
pub run_refused : (c : Config) (path : List Event) (event : Event) (t : Scene) (e : Refusal) → run c path ≡ Ok t → next c t event ≡ Err e → run c (path ++ event ∷ []) ≡ Err (length path, e)
run_refused c path event t e before h =
    run_append c 0 path (event ∷ []) (opening c) ∙ ap (λ d. on_scene d (λ v. run_from c (0 + length path) (event ∷ []) v)) before
    ∙ one_refused c (0 + length path) event t e h ∙ ap (λ n. Err (n, e)) (omega arith)

went_on : (d : Ran) (go : Scene → Ran) (t : Scene) → on_scene d go ≡ Ok t → (u : Scene) × (d ≡ Ok u)
went_on (Err e) go t h = cc
went_on (Ok u) go t h = (u, refl)

-- the first events of a path are a path
pub run_before : (c : Config) (es fs : List Event) (t : Scene) → run c (es ++ fs) ≡ Ok t → (u : Scene) × (run c es ≡ Ok u)
run_before c es fs t h = went_on (run c es) (λ u. run_from c (0 + length es) fs u) t (sym (run_append c 0 es fs (opening c)) ∙ h)

pub run_taken : (c : Config) (path : List Event) (count : ℕ) (t : Scene) → run c path ≡ Ok t → (u : Scene) × (run c (take count path) ≡ Ok u)
run_taken c path count t h = run_before c (take count path) (drop count path) t (ap (run c) (take-append-drop count path) ∙ h)

-- The level.

level_settled : (c : Config) (level : Level) (o : Outcome) (r : Answer × Scene) → settled c level o ≡ Ok r → r.1.level ≡ next_level c level (free_count c.frames r.1.site)
level_settled c level (Err e) r h = cc
level_settled c level (Ok k) r h =
    let there : Scene = record { site = k.1; level = next_level c level (free_count c.frames k.1) } in
    let same : (k.0, there) ≡ r = cc in
    (let P : Answer × Scene → Type 0 = λ x. x.1.level ≡ next_level c level (free_count c.frames x.1.site) in subst P same refl)

pub level_next : (c : Config) (t : Scene) (e : Event) (r : Answer × Scene) → next c t e ≡ Ok r → r.1.level ≡ next_level c t.level (free_count c.frames r.1.site)
unfolding next
level_next c t e r h = level_settled c t.level (step c t.site t.level e) r h

level_after : (c : Config) (i : ℕ) (es : List Event) (t u : Scene) (d : Result (Answer × Scene) Refusal) → ((r : Answer × Scene) → d ≡ Ok r → r.1.level ≡ next_level c t.level (free_count c.frames r.1.site))
    → ((v : Scene) → run_from c (i + 1) es v ≡ Ok u → u.level ≡ fold (λ level free. next_level c level free) v.level (frees_from c es v))
    → after_one i d (λ v. run_from c (i + 1) es v) ≡ Ok u → u.level ≡ fold (λ level free. next_level c level free) t.level (frees_after c es d (λ v. frees_from c es v))
level_after c i es t u (Err e) is rest h = cc
level_after c i es t u (Ok r) is rest h = rest r.1 h ∙ ap (λ level. fold (λ level free. next_level c level free) level (frees_from c es r.1)) (is r refl)

level_from : (c : Config) (i : ℕ) (es : List Event) (t u : Scene) → run_from c i es t ≡ Ok u → u.level ≡ fold (λ level free. next_level c level free) t.level (frees_from c es t)
unfolding run_from frees_from
level_from c i [] t u h = let same : t ≡ u = cc in ap (λ (x : Scene). x.level) (sym same)
level_from c i (e ∷ es) t u h = level_after c i es t u (next c t e) (λ r k. level_next c t e r k) (λ v k. level_from c (i + 1) es v u k) h

pub level_of_run : (c : Config) (path : List Event) (t : Scene) → run c path ≡ Ok t → t.level ≡ level_of c (frees c path)
level_of_run c path t h = level_from c 0 path (opening c) t h
