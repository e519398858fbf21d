-- A watch over its path: it opens, it may go on, and it goes on.
use Rattle.std.proofs.Common.{◌≡◌, ℕ, ◌+◌, ◌<◌, List, [], ◌∷◌, ◌++◌, length, get_or, refl, sym, ap, ◌∙◌, subst, arith, None, Ok}
use Rattle.esx_types.specs.declared.config.TheConstants.{MAX_NODES, MAX_PAGES}
use Rattle.esx_types.specs.Ranges.{IsConfig}
use Rattle.esx_types.specs.declared.config.Config.{Config}
use Rattle.esx_events.specs.declared.event.Answer.{Answer}
use Rattle.esx_events.specs.declared.event.Event.{Event}
use Rattle.esx_model.specs.declared.scene.Scene.{Scene}
use Rattle.esx_model.specs.declared.tables.Tables.{Tables}
use Rattle.esx_model.specs.Replay.{opening, next, run_from}
use Rattle.esx_model.proofs.Callers.{run_one, run_one_more, path_within, shown_within}
use Rattle.esx_plans.specs.plan.Balloon.{CanEpochsRise}
use Rattle.esx_machine.specs.Machine.{Shows}
use Rattle.esx_story.specs.Moments.{Moment, moments_from, moments}
use Rattle.esx_story.proofs.Listed.{moments_one}
use Rattle.esx_story.proofs.Walked.{path_told}
use Rattle.esx_watch.specs.Logs.{IsLog}
use Rattle.esx_watch.specs.Shifting.{AreAtMost}
use Rattle.esx_watch.specs.Watches.{Watched, IsWatch, MayWatch}
use Rattle.esx_watch.proofs.Going.{few_shared}

abbrev pub moment_of : Event → Answer → Scene → Scene → Moment
moment_of e a t u = record { event = e; answer = a; before = t; after = u }

-- the path has one more moment
more_from : (c : Config) (i : ℕ) (es : List Event) (s t : Scene) (e : Event) (r : Answer × Scene) → run_from c i es s ≡ Ok t → next c t e ≡ Ok r
    → moments_from c (es ++ e ∷ []) s ≡ moments_from c es s ++ moment_of e r.0 t r.1 ∷ []
unfolding run_from moments_from
more_from c i [] s t e r h goes =
    let same : s ≡ t = cc in
    let P : Scene → Type 0 = λ x. moments_from c (e ∷ []) s ≡ moment_of e r.0 x r.1 ∷ [] in
    let Q : Scene → Type 0 = λ x. next c x e ≡ Ok r in
    subst P same (moments_one c e [] s r (subst Q (sym same) goes))
more_from c i (x ∷ es) s t e r h goes =
    let one = run_one i (next c s x) (λ y. run_from c (i + 1) es y) t h in
    moments_one c x (es ++ e ∷ []) s one.0 one.1
    ∙ ap (λ ms. moment_of x one.0.0 s one.0.1 ∷ ms) (more_from c (i + 1) es one.0.1 t e r one.2 goes)
    ∙ ap (λ ms. ms ++ moment_of e r.0 t r.1 ∷ []) (sym (moments_one c x es s one.0 one.1))

pub watch_more : (c : Config) (es : List Event) (e : Event) (answer : Answer) (w v : Watched) (u : Scene) (watch : IsWatch c es w) → next c watch.scene e ≡ Ok (answer, u) → Shows v.machine u → v.machine.config ≡ c
    → IsLog c (moments c es ++ moment_of e answer watch.scene u ∷ []) u v.log → IsWatch c (es ++ e ∷ []) v
watch_more c es e answer w v u watch goes shows config log =
    let P : List Moment → Type 0 = λ ms. IsLog c ms u v.log in
    record {
      good = watch.good;
      config = config;
      scene = u;
      runs = run_one_more c es e watch.scene u answer watch.runs goes;
      shows = shows;
      log = subst P (sym (more_from c 0 es (opening c) watch.scene e (answer, u) watch.runs goes)) log;
    }

-- of no event
pub watch_opens : (c : Config) (w : Watched) → IsConfig c → w.machine.config ≡ c → Shows w.machine (opening c) → IsLog c [] (opening c) w.log → IsWatch c [] w
unfolding run_from moments_from
watch_opens c w good config shows log = record { good = good; config = config; scene = opening c; runs = refl; shows = shows; log = log }

-- What it needs to go on.

pub short_log : (w : Watched) → MayWatch w → w.log.events < MAX_NODES
short_log w may =
    let watch = may.watch in
    let long = (path_told may.config may.events watch.scene watch.runs).0 in
    let events = watch.log.events in
    let short = may.short in
    omega (arith, long, events, short)

pub small_log : (w : Watched) → MayWatch w → AreAtMost MAX_PAGES w.log.shared
small_log w may =
    let watch = may.watch in
    let P : List ℕ → Type 0 = AreAtMost MAX_PAGES in
    subst P (sym watch.log.shared) (few_shared w.machine.config watch.scene.site watch.shows.sound)

pub can_rise : (w : Watched) → MayWatch w → CanEpochsRise w.machine.tables
can_rise w may = λ n v there. (
    let watch = may.watch in
    let low = shown_within w.machine.config (length may.events) watch.scene.site n v (path_within may.config may.events watch.scene watch.runs)
    (sym (ap (λ (x : Tables). get_or x.vms n None) watch.shows.tables) ∙ there) in
    let short = may.short in
    omega (arith, low, short))
