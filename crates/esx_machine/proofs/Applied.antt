-- A machine that accepted some events shows where their path leads.
use Rattle.std.proofs.Common.{◌≡◌, ℕ, ◌+◌, List, [], ◌∷◌, refl, sym, ap, ◌∙◌, subst, Ok}
use Rattle.esx_types.specs.declared.config.Config.{Config}
use Rattle.esx_events.specs.declared.event.Answer.{Answer}
use Rattle.esx_events.specs.declared.event.Event.{Event}
use Rattle.esx_events.specs.declared.event.Event.TheVariants.{Read}
use Rattle.esx_model.specs.declared.scene.Scene.{Scene}
use Rattle.esx_model.specs.Memory.{own_events}
use Rattle.esx_isolation.specs.Isolation.{IsIsolated}
use Rattle.esx_model.specs.Replay.{opening, next, after_one, run_from}
use Rattle.esx_machine.specs.Machine.{Kept, Shows}
use Rattle.esx_machine.specs.Applied.{AreApplied, ReadsAfter}

record IsLed (c : Config) (i : ℕ) (es : List Event) (t : Scene) (k : Kept) : Type 0 where
  scene : Scene
  runs : run_from c i es t ≡ Ok scene
  same : k.config ≡ c
  shows : Shows k scene

led : (c : Config) (i : ℕ) (es : List Event) (t : Scene) (old new : Kept) → old.config ≡ c → Shows old t → AreApplied es old new → IsLed c i es t new
unfolding run_from
led c i [] t old new same shows are =
    let P : Kept → Type 0 = IsLed c i [] t in
    subst P are (record { scene = t; runs = refl; same = same; shows = shows })
led c i (e ∷ es) t old new same shows are =
    let accepts = are.3 t shows in
    let rest = led c (i + 1) es accepts.after are.0 new (accepts.config ∙ same) accepts.shows are.4 in
    record {
      scene = rest.scene;
      runs = ap (λ d. after_one i d (λ u. run_from c (i + 1) es u)) (ap (λ d. next d t e) (sym same) ∙ accepts.gives) ∙ rest.runs;
      same = rest.same;
      shows = rest.shows;
    }

pub machines_read_alike : IsIsolated → (c : Config) (es fs : List Event) (n page at len : ℕ) (a b : Answer) → own_events n es ≡ own_events n fs → ReadsAfter c es n page at len a → ReadsAfter c fs n page at len b → a ≡ b
machines_read_alike law c es fs n page at len a b own one two =
    let here = led c 0 es (opening c) one.first one.last one.opened.same one.opened.shows one.applied in
    let there = led c 0 fs (opening c) two.first two.last two.opened.same two.opened.shows two.applied in
    let read = one.reads here.scene here.shows in
    let reads_too = two.reads there.scene there.shows in
    law c es fs n page at len a b one.opened.config own (record {
      one = here.scene;
      other = there.scene;
      runs = here.runs;
      runs_too = there.runs;
      after = read.after;
      after_too = reads_too.after;
      reads = ap (λ d. next d here.scene (Read n page at len)) (sym here.same) ∙ read.gives;
      reads_too = ap (λ d. next d there.scene (Read n page at len)) (sym there.same) ∙ reads_too.gives;
    })
