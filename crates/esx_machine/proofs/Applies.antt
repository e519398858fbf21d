-- An event on a machine is the model's event on the scene that the machine shows.
use Rattle.std.proofs.Common.{◌≡◌, List, refl, sym, ap, ◌∙◌, subst, Ok, Err}
use Rattle.std.specs.Result.{IsOk}
use Rattle.std.specs.List.{count_by}
use Rattle.esx_types.specs.declared.config.Config.{Config}
use Rattle.esx_types.specs.declared.level.Level.{Level}
use Rattle.esx_types.specs.Frames.{is_free}
use Rattle.esx_events.specs.declared.event.Event.{Event}
use Rattle.esx_events.specs.declared.event.Answer.{Answer}
use Rattle.esx_events.specs.declared.event.Refusal.{Refusal}
use Rattle.esx_events.specs.declared.event.Refusal.TheVariants.{OutOfMemory}
use Rattle.esx_formulas.specs.Level.{next_level}
use Rattle.esx_model.specs.declared.scene.Site.{Site}
use Rattle.esx_model.specs.declared.scene.Scene.{Scene}
use Rattle.esx_model.specs.declared.tables.Tables.{Tables}
use Rattle.esx_model.specs.Site.{free_count}
use Rattle.esx_model.specs.Tables.{tables_of}
use Rattle.esx_model.specs.event.Outcome.{Outcome}
use Rattle.esx_model.specs.Step.{step}
use Rattle.esx_model.specs.Replay.{next, settled}
use Rattle.esx_model.specs.sound.Sound.{NamesVm}
use Rattle.esx_model.proofs.Callers.{every_event_sound, free_rows}
use Rattle.esx_tables.specs.declared.change.Change.{Change}
use Rattle.esx_tables.specs.Changes.{exchanged}
use Rattle.esx_tables.proofs.Back.{exchanged_back}
use Rattle.esx_changes.specs.Planned.{Planned}
use Rattle.esx_refinement.specs.Refinement.{Makes, Refines}
use Rattle.esx_plans.specs.plan.Event.{ArePlannable, plan_of}
use Rattle.esx_refinement.proofs.refines.Event.{plannable, plan_refines}
use Rattle.esx_machine.specs.Machine.{Kept, IsKept, Shows, Back, Trades, Accepts, Refuses}

-- what plans rest on
pub kept_plannable : (k : Kept) → IsKept k → ArePlannable k.config k.tables
kept_plannable k kept = subst (ArePlannable k.config) (sym kept.shows) (plannable k.config kept.site kept.config kept.sound)

-- in the same state the same is planned
pub planned_alike : (k old : Kept) (e : Event) (p : Answer × List Change) → k ≡ old → plan_of old.config old.tables old.level e ≡ Ok p → plan_of k.config k.tables k.level e ≡ Ok p
planned_alike k old e p same plan = subst (λ (o : Kept). plan_of o.config o.tables o.level e ≡ Ok p) (sym same) plan

-- the machine's plan refines the event on the scene
at_scene : (k : Kept) (t : Scene) (e : Event) → Shows k t → NamesVm e → Refines k.config t.site (plan_of k.config k.tables k.level e) (step k.config t.site t.level e)
at_scene k t e shows named =
    let P : Tables → Type 0 = λ x. Refines k.config t.site (plan_of k.config x k.level e) (step k.config t.site t.level e) in
    let Q : Level → Type 0 = λ l. Refines k.config t.site (plan_of k.config (tables_of k.config t.site) l e) (step k.config t.site t.level e) in
    subst P (sym shows.tables) (subst Q (sym shows.level) (plan_refines k.config t.site t.level e shows.sound named))

-- what is planned comes
comes : (c : Config) (s : Site) (a : Answer) (cs : List Change) (o : Outcome) → Refines c s (Ok (a, cs)) o → (t : Site) × (o ≡ Ok (a, t)) × Makes c s cs t
comes c s a cs (Ok r) h = (r.1, ap (λ x. let o : Outcome = Ok (x, r.1) in o) (sym h.0), h.1)
comes c s a cs (Err f) h = absurd h

fails : (c : Config) (s : Site) (e : Refusal) (o : Outcome) → Refines c s (Err e) o → o ≡ Err e
fails c s e (Ok r) h = absurd h
fails c s e (Err f) h = ap (λ x. let o : Outcome = Err x in o) (sym h)

goes : (c : Config) (s : Site) (d : Planned) (o : Outcome) → IsOk d → Refines c s d o → IsOk o
goes c s (Ok p) (Ok r) ok h = refl
goes c s (Ok p) (Err f) ok h = absurd h
goes c s (Err e) o ok h = cc

-- An event made by exchanging changes: t and ds are what the exchange gives, and the level follows.
pub record Made (k : Kept) (e : Event) (a : Answer) (cs : List Change) (t : Tables) (ds : List Change) (level : Level) : Type 0 where
  pub named : NamesVm e
  pub plan : plan_of k.config k.tables k.level e ≡ Ok (a, cs)
  pub tables : t ≡ (exchanged k.tables cs).0
  pub changes : ds ≡ (exchanged k.tables cs).1
  pub follows : level ≡ next_level k.config k.level (count_by is_free t.frames)

abbrev pub after : Kept → Tables → Level → Kept
after k t level = record k { level = level; tables = t }

abbrev pub back : Kept → List Change → Back
back k ds = record { level = k.level; changes = ds }

-- the record leads back
record_leads : (k : Kept) (e : Event) (a : Answer) (cs : List Change) (t : Tables) (ds : List Change) (level : Level) → IsKept k → Made k e a cs t ds level → Trades (back k ds) (after k t level) k
record_leads k e a cs t ds level kept m =
    let once : (exchanged t ds).0 ≡ k.tables =
    ap (λ (x : Tables). (exchanged x ds).0) m.tables ∙ ap (λ (x : List Change). (exchanged (exchanged k.tables cs).0 x).0) m.changes ∙ ap (λ (x : Tables × List Change). x.0) (exchanged_back k.tables cs) in
    record { makes = ap (λ (x : Tables). record k { tables = x }) (sym once); kept = kept }

pub accepted : (k : Kept) (e : Event) (a : Answer) (cs : List Change) (t : Tables) (ds : List Change) (level : Level) → IsKept k → Made k e a cs t ds level
    → (scene : Scene) → Shows k scene → Accepts k (after k t level) a (back k ds) (next k.config scene e)
unfolding next
accepted k e a cs t ds level kept m scene shows =
    let c : Config = k.config in
    let s : Site = scene.site in
    let P : Planned → Type 0 = λ d. Refines c s d (step c s scene.level e) in
    let come = comes c s a cs (step c s scene.level e) (subst P m.plan (at_scene k scene e shows m.named)) in
    let u : Scene = record { site = come.0; level = next_level c scene.level (free_count c.frames come.0) } in
    let gives : next c scene e ≡ Ok (a, u) = ap (settled c scene.level) come.1 in
    let tables : t ≡ tables_of c come.0 = m.tables ∙ ap (λ (x : Tables). (exchanged x cs).0) shows.tables ∙ come.2 in
    let free : count_by is_free t.frames ≡ free_count c.frames come.0 = ap (λ (x : Tables). count_by is_free x.frames) tables ∙ free_rows come.0 c.frames in
    record {
      after = u;
      gives = gives;
      shows = record {
        sound = every_event_sound c scene e (a, u) shows.sound gives;
        tables = tables;
        level = m.follows ∙ ap (λ n. next_level c k.level n) free ∙ ap (λ l. next_level c l (free_count c.frames come.0)) shows.level;
      };
      config = refl;
      back = record_leads k e a cs t ds level kept m;
    }

-- the tables after it are those of a sound site
pub kept_after : (k : Kept) (e : Event) (a : Answer) (cs : List Change) (t : Tables) (ds : List Change) (level : Level) → IsKept k → Made k e a cs t ds level → IsKept (after k t level)
kept_after k e a cs t ds level kept m =
    let scene : Scene = record { site = kept.site; level = k.level } in
    let r = accepted k e a cs t ds level kept m scene (record { sound = kept.sound; tables = kept.shows; level = refl }) in
    record { config = kept.config; site = r.after.site; sound = r.shows.sound; shows = r.shows.tables }

settled_fails : (c : Config) (level : Level) (o : Outcome) (e : Refusal) → o ≡ Err e → settled c level o ≡ Err e
settled_fails c level o e h = ap (settled c level) h

settled_goes : (c : Config) (level : Level) (o : Outcome) → IsOk o → IsOk (settled c level o)
settled_goes c level (Ok r) h = refl
settled_goes c level (Err e) h = cc

-- a refusal, or want of memory
pub refused : (k : Kept) (e : Event) (r : Refusal) → NamesVm e
    → ((r ≡ OutOfMemory → ⊥) → plan_of k.config k.tables k.level e ≡ Err r) × (r ≡ OutOfMemory → IsOk (plan_of k.config k.tables k.level e))
    → (scene : Scene) → Shows k scene → Refuses k k r (next k.config scene e)
unfolding next
refused k e r named h scene shows =
    let c : Config = k.config in
    let s : Site = scene.site in
    let o : Outcome = step c s scene.level e in
    let refines = at_scene k scene e shows named in
    let P : Planned → Type 0 = λ d. Refines c s d o in
    record {
      same = refl;
      why = λ other. settled_fails c scene.level o r (fails c s r o (subst P (h.0 other) refines));
      late = λ no_memory. settled_goes c scene.level o (goes c s (plan_of k.config k.tables k.level e) o (h.1 no_memory) refines);
    }
