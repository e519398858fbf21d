-- Histories that accepted events lead to, and what one more event does to them.
use Rattle.std.proofs.Common.{◌≡◌, ℕ, ◌+◌, nat_le, true, false, List, ◌∷◌, length, refl, sym, ap, ◌∙◌, cond, arith, Ok, Err}
use Rattle.esx_types.specs.declared.config.Config.{Config}
use Rattle.esx_events.specs.declared.event.Event.{Event}
use Rattle.esx_events.specs.declared.event.Answer.{Answer}
use Rattle.esx_events.specs.declared.event.Refusal.{Refusal}
use Rattle.esx_events.specs.declared.event.Refusal.TheVariants.{Full}
use Rattle.esx_model.specs.declared.scene.Scene.{Scene}
use Rattle.esx_model.specs.declared.scene.Site.{Site}
use Rattle.esx_model.specs.Tree.{path, at}
use Rattle.esx_model.specs.event.Outcome.{Outcome}
use Rattle.esx_model.specs.Step.{step}
use Rattle.esx_model.specs.Replay.{opening, settled, next, run_from, run}
use Rattle.esx_model.specs.History.{History, opened, here, scene_or, scene_at, done, answered, do_event}
use Rattle.esx_model.proofs.Callers.{run_one_more, here_done}
use Rattle.esx_refused.specs.Refused.{refused_by, refused_or, refused_from}

-- So many events were accepted at a site, and led to that site.
pub record IsAt (c : Config) (h : History) (s : Site) (k : ℕ) : Type 0 where
  pub config : h.config ≡ c
  pub runs : run c (here h) ≡ Ok (scene_at h)
  pub site : (scene_at h).site ≡ s
  pub nodes : length h.nodes ≡ k

pub at_opening : (c : Config) → IsAt c (opened c) (opening c).site 0
unfolding at path run_from
at_opening c = record { config = refl; runs = refl; site = refl; nodes = refl }

scene_done : (c : Config) (h : History) (e : Event) (u : Scene) → h.config ≡ c → run c (here (done e h)) ≡ Ok u → scene_at (done e h) ≡ u
unfolding done
scene_done c h e u config runs = ap (λ d. scene_or d (run d (here (done e h)))) config ∙ ap (scene_or c) runs

-- one event more
module _ (c : Config) (h : History) (s : Site) (k : ℕ) (is_at : IsAt c h s k) (e : Event) where
  test_is : nat_le h.config.nodes (length h.nodes) ≡ nat_le c.nodes k
  test_is = ap (λ (d : Config). nat_le d.nodes (length h.nodes)) is_at.config ∙ ap (nat_le c.nodes) is_at.nodes

  pub refused_full : nat_le c.nodes k ≡ true → do_event e h ≡ Err Full
  unfolding do_event
  refused_full full = ap (λ b. cond b (Err Full) (answered e h (next h.config (scene_at h) e))) (test_is ∙ full)

  stepped : nat_le c.nodes k ≡ false → (o : Outcome) → step c s (scene_at h).level e ≡ o → do_event e h ≡ answered e h (settled c (scene_at h).level o)
  unfolding do_event next
  stepped more o is =
      ap (λ b. cond b (Err Full) (answered e h (next h.config (scene_at h) e))) (test_is ∙ more)
      ∙ ap (λ d. answered e h (next d (scene_at h) e)) is_at.config
      ∙ ap (λ x. answered e h (settled c (scene_at h).level (step c x (scene_at h).level e))) is_at.site
      ∙ ap (λ x. answered e h (settled c (scene_at h).level x)) is

  pub refused_so : nat_le c.nodes k ≡ false → (x : Refusal) → step c s (scene_at h).level e ≡ Err x → do_event e h ≡ Err x
  refused_so more x is = stepped more (Err x) is

  pub accepted_so : nat_le c.nodes k ≡ false → (a : Answer) (t : Site) → step c s (scene_at h).level e ≡ Ok (a, t) → do_event e h ≡ Ok (a, done e h)
  accepted_so more a t is = stepped more (Ok (a, t)) is

  goes_next : (a : Answer) (t : Site) → step c s (scene_at h).level e ≡ Ok (a, t) → (u : Scene) × (next c (scene_at h) e ≡ Ok (a, u)) × (u.site ≡ t)
  unfolding next
  goes_next a t is = (_, ap (λ x. settled c (scene_at h).level (step c x (scene_at h).level e)) is_at.site ∙ ap (settled c (scene_at h).level) is, refl)

  pub at_next : (a : Answer) (t : Site) → step c s (scene_at h).level e ≡ Ok (a, t) → IsAt c (done e h) t (k + 1)
  unfolding done
  at_next a t is =
      let u = goes_next a t is in
      let runs : run c (here (done e h)) ≡ Ok u.0 = ap (run c) (here_done h e) ∙ run_one_more c (here h) e (scene_at h) u.0 a is_at.runs u.1 in
      let there : scene_at (done e h) ≡ u.0 = scene_done c h e u.0 is_at.config runs in
      let many = is_at.nodes in
      record { config = is_at.config; runs = runs ∙ ap Ok (sym there); site = ap (λ (x : Scene). x.site) there ∙ u.2; nodes = omega (arith, many) }

-- the first event of some, where it is accepted and where it is refused
pub goes_on : (h : History) (e : Event) (a : Answer) (rest : List Event) → do_event e h ≡ Ok (a, done e h) → refused_from h (e ∷ rest) ≡ refused_from (done e h) rest
unfolding refused_from
goes_on h e a rest is = ap (λ r. refused_or h e r (λ after. refused_from after rest)) is

pub ends : (h : History) (e : Event) (x : Refusal) (rest : List Event) → do_event e h ≡ Err x → refused_from h (e ∷ rest) ≡ refused_by h e x
unfolding refused_from
ends h e x rest is = ap (λ r. refused_or h e r (λ after. refused_from after rest)) is
