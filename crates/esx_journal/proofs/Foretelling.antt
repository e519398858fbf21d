-- What is told of events that are tried is what making them would tell.
use Rattle.std.proofs.Common.{◌≡◌, ◌≢◌, Bool, true, false, cond, List, [], ◌∷◌, length, refl, sym, ap, ◌∙◌, subst, nat_le, Result, Ok, Err}
use Rattle.esx_types.specs.declared.config.Config.{Config}
use Rattle.esx_events.specs.declared.event.Event.{Event}
use Rattle.esx_events.specs.declared.event.Answer.{Answer}
use Rattle.esx_events.specs.declared.event.Refusal.{Refusal}
use Rattle.esx_events.specs.declared.event.Refusal.TheVariants.{Full}
use Rattle.esx_events.specs.declared.call.Sides.{Sides}
use Rattle.esx_model.specs.declared.scene.Scene.{Scene}
use Rattle.esx_model.specs.Show.{shown}
use Rattle.esx_model.specs.Readings.{sum_of}
use Rattle.esx_model.specs.Replay.{next, run}
use Rattle.esx_model.specs.History.{History, here, done, answered, do_event, scene_or, scene_at, book_at}
use Rattle.esx_model.specs.WhatIf.{tried, scene_then, replies_to, scene_of, what_if}
use Rattle.esx_journal.proofs.Runs.{run_one_more}
use Rattle.esx_journal.proofs.Grows.{here_done}
use Rattle.esx_journal.proofs.Reaching.{IsSteady, did_is, runs_here}

-- no event
pub tried_none : (h : History) → what_if [] h ≡ record { given = 0; before = sum_of (book_at h); replies = []; after = sum_of (book_at h) }
unfolding what_if replies_to scene_of
tried_none h = refl

-- an event that would be accepted leads to its scene
scene_done : (c : Config) (h : History) (e : Event) (a : Answer) (u : Scene) → IsSteady c h → next h.config (scene_at h) e ≡ Ok (a, u) → scene_or h.config (run h.config (here (done e h))) ≡ u
scene_done c h e a u s n = ap (λ es. scene_or h.config (run h.config es)) (here_done h e) ∙ ap (scene_or h.config) (run_one_more h.config (here h) e (scene_at h) u a (runs_here c h s) n)

config_done : (h : History) (e : Event) → (done e h).config ≡ h.config
unfolding done
config_done h e = refl

-- what is told where the first event is answered so
told : History → Event → List Event → Result (Answer × Scene) Refusal → Sides
told h e es d = record {
  given = length (e ∷ es);
  before = sum_of (book_at h);
  replies = tried d (λ u. replies_to h.config es u);
  after = sum_of (shown h.config (scene_then (scene_at h) d (λ u. scene_of h.config es u)));
}

told_first : (h : History) (e : Event) (es : List Event) → what_if (e ∷ es) h ≡ told h e es (next h.config (scene_at h) e)
unfolding what_if replies_to scene_of told
told_first h e es = refl

-- what is told of later events from a scene, after an answer
told_then : History → Event → List Event → Answer → Config → Scene → Sides
told_then h e es a c u = record { given = length (e ∷ es); before = sum_of (book_at h); replies = Ok a ∷ replies_to c es u; after = sum_of (shown c (scene_of c es u)) }

told_later : (h : History) (e : Event) (es : List Event) (a : Answer) (x : History)
    → told_then h e es a x.config (scene_at x) ≡ record (what_if es x) { given = length (e ∷ es); before = sum_of (book_at h); replies = Ok a ∷ (what_if es x).replies }
unfolding told_then what_if
told_later h e es a x = refl

told_accepted : (h : History) (e : Event) (es : List Event) (a : Answer) (u : Scene) → told h e es (Ok (a, u)) ≡ told_then h e es a h.config u
unfolding told told_then
told_accepted h e es a u = refl

-- an event that would be accepted, and those after it
pub tried_accepted : (c : Config) (h after : History) (e : Event) (es : List Event) (a : Answer) → IsSteady c h → do_event e h ≡ Ok (a, after)
    → what_if (e ∷ es) h ≡ record (what_if es after) { given = length (e ∷ es); before = sum_of (book_at h); replies = Ok a ∷ (what_if es after).replies }
tried_accepted c h after e es a s d =
    let i = did_is h after e a d in
    let there : scene_at (done e h) ≡ i.0 = ap (λ k. scene_or k (run k (here (done e h)))) (config_done h e) ∙ scene_done c h e a i.0 s i.1 in
    let P : History → Type 0 = λ x. what_if (e ∷ es) h ≡ record (what_if es x) { given = length (e ∷ es); before = sum_of (book_at h); replies = Ok a ∷ (what_if es x).replies } in
    subst P i.2 (told_first h e es ∙ ap (told h e es) i.1 ∙ told_accepted h e es a i.0 ∙ ap (told_then h e es a h.config) (sym there)
    ∙ ap (λ k. told_then h e es a k (scene_at (done e h))) (sym (config_done h e)) ∙ told_later h e es a (done e h))

told_refused : (h : History) (e : Event) (es : List Event) (r : Refusal) → told h e es (Err r) ≡ record (what_if [] h) { given = length (e ∷ es); replies = Err r ∷ [] }
unfolding told what_if replies_to scene_of
told_refused h e es r = refl

-- an event that would be refused ends them
pub tried_refused : (h : History) (e : Event) (es : List Event) (r : Refusal) → do_event e h ≡ Err r → r ≢ Full
    → what_if (e ∷ es) h ≡ record (what_if [] h) { given = length (e ∷ es); replies = Err r ∷ [] }
unfolding do_event
tried_refused h e es r d other = of (nat_le h.config.nodes (length h.nodes)) d
  where
    refused : (x : Result (Answer × Scene) Refusal) → answered e h x ≡ Err r → x ≡ Err r
    refused (Ok y) q = cc
    refused (Err y) q = (let same : y ≡ r = cc in ap (λ z. Err z) same)

    of : (b : Bool) → cond b (Err Full) (answered e h (next h.config (scene_at h) e)) ≡ Err r → what_if (e ∷ es) h ≡ record (what_if [] h) { given = length (e ∷ es); replies = Err r ∷ [] }
    of true q = absurd (other (let same : Full ≡ r = cc in sym same))
    of false q = told_first h e es ∙ ap (told h e es) (refused (next h.config (scene_at h) e) q) ∙ told_refused h e es r
