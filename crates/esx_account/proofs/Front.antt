-- The front of a path that a site accepts, and the event behind it.
use Rattle.std.proofs.Common.{◌≡◌, ℕ, zero, suc, ◌+◌, List, [], ◌∷◌, ◌++◌, take, slice_get, sym, ◌∙◌, ap, arith, Some, Result, Ok, Err}
use Rattle.esx_types.specs.declared.config.Config.{Config}
use Rattle.esx_events.specs.declared.event.Event.{Event}
use Rattle.esx_events.specs.declared.event.Refusal.{Refusal}
use Rattle.esx_model.specs.declared.scene.Scene.{Scene}
use Rattle.esx_model.specs.Replay.{opening, next, after_one, run_from, run}
use Rattle.esx_model.proofs.Callers.{run_one}
use Rattle.esx_walk.specs.Walks.{IsRefused}

pub record Leads (c : Config) (es : List Event) : Type 0 where
  pub scene : Scene
  pub runs : run c es ≡ Ok scene

one_event : (x e : Event) → Some x ≡ Some e → x ≡ e
one_event x e h = cc

front_from : (c : Config) (k : ℕ) (es : List Event) (i : ℕ) (e : Event) (s t : Scene) → slice_get es i ≡ Some e → run_from c k es s ≡ Ok t → (u : Scene) × (run_from c k (take i es ++ e ∷ []) s ≡ Ok u)
unfolding run_from
front_from c k [] i e s t there runs = cc
front_from c k (x ∷ es) zero e s t there runs =
    let one = run_one k (next c s x) (λ u. run_from c (k + 1) es u) t runs in
    let accepted : next c s e ≡ Ok one.0 = ap (next c s) (sym (one_event x e there)) ∙ one.1 in
    (one.0.1, ap (λ o. after_one k o (λ u. run_from c (k + 1) [] u)) accepted)
front_from c k (x ∷ es) (suc i) e s t there runs =
    let one = run_one k (next c s x) (λ u. run_from c (k + 1) es u) t runs in
    let rest = front_from c (k + 1) es i e one.0.1 t there one.2 in
    (rest.0, ap (λ o. after_one k o (λ u. run_from c (k + 1) (take i es ++ e ∷ []) u)) one.1 ∙ rest.1)

-- a front of the path, and its next event
pub front_leads : (c : Config) (es : List Event) (i : ℕ) (e : Event) (t : Scene) → slice_get es i ≡ Some e → run c es ≡ Ok t → Leads c (take i es ++ e ∷ [])
front_leads c es i e t there runs = (let front = front_from c 0 es i e (opening c) t there runs in record { scene = front.0; runs = front.1 })

stops_from : (c : Config) (k : ℕ) (es : List Event) (e : Event) (s t : Scene) (r : Refusal) → run_from c k es s ≡ Ok t → next c t e ≡ Err r → (j : ℕ) × (run_from c k (es ++ e ∷ []) s ≡ Err (j, r))
unfolding run_from
stops_from c k [] e s t r runs stops =
    let same : s ≡ t = cc in
    (k, ap (λ x. after_one k (next c x e) (λ u. run_from c (k + 1) [] u)) same ∙ ap (λ o. after_one k o (λ u. run_from c (k + 1) [] u)) stops)
stops_from c k (x ∷ es) e s t r runs stops =
    let one = run_one k (next c s x) (λ u. run_from c (k + 1) es u) t runs in
    let rest = stops_from c (k + 1) es e one.0.1 t r one.2 stops in
    (rest.0, ap (λ o. after_one k o (λ u. run_from c (k + 1) (es ++ e ∷ []) u)) one.1 ∙ rest.1)

-- an event that is accepted next is not refused
pub not_refused : (c : Config) (es : List Event) (e : Event) (r : Refusal) (t : Scene) → run c (es ++ e ∷ []) ≡ Ok t → IsRefused c es e r → ⊥
not_refused c es e r t runs refused =
    let stop = stops_from c 0 es e (opening c) refused.before r refused.runs refused.stops in
    two (run c (es ++ e ∷ [])) (stop.0, r) t stop.1 runs
  where
    two : (d : Result Scene (ℕ × Refusal)) (x : ℕ × Refusal) (u : Scene) → d ≡ Err x → d ≡ Ok u → ⊥
    two d x u e h = cc

-- so far, and one more
pub one_more : (es : List Event) (i : ℕ) (e : Event) → slice_get es i ≡ Some e → take i es ++ e ∷ [] ≡ take (i + 1) es
one_more [] i e there = cc
one_more (x ∷ es) zero e there = ap (λ (y : Event). y ∷ []) (sym (one_event x e there))
one_more (x ∷ es) (suc i) e there =
    let next : suc (i + 1) ≡ suc i + 1 = omega arith in
    ap (λ (rest : List Event). x ∷ rest) (one_more es i e there) ∙ ap (λ k. take k (x ∷ es)) next
