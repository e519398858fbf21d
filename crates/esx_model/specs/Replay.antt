-- Whole paths: the scene that a path leads to.
use Rattle.std.specs.Prelude.{ℕ, ◌+◌, List, [], ◌∷◌, None, replicate, Result, Ok, Err}
use Rattle.esx_types.specs.declared.config.Config.{Config}
use Rattle.esx_types.specs.declared.config.TheConstants.{VM_NUMBERS}
use Rattle.esx_types.specs.declared.level.Level.{Level}
use Rattle.esx_types.specs.declared.level.Level.TheVariants.{High}
use Rattle.esx_events.specs.declared.event.Event.{Event}
use Rattle.esx_events.specs.declared.event.Answer.{Answer}
use Rattle.esx_events.specs.declared.event.Refusal.{Refusal}
use Rattle.esx_model.specs.declared.scene.Scene.{Scene}
use Rattle.esx_model.specs.declared.book.Book.{Book}
use Rattle.esx_model.specs.Site.{free_count}
use Rattle.esx_formulas.specs.Level.{next_level}
use Rattle.esx_model.specs.event.Outcome.{Outcome}
use Rattle.esx_model.specs.Step.{step}
use Rattle.esx_model.specs.Show.{shown}

-- where a path begins
abbrev pub opening : Config → Scene
opening c = record { site = record { vms = replicate VM_NUMBERS None; hints = []; tau = c.tau }; level = High }

-- the level follows the free frames after each event
abbrev pub settled : Config → Level → Outcome → Result (Answer × Scene) Refusal
settled c level (Err e) = Err e
settled c level (Ok r) = Ok (r.0, record { site = r.1; level = next_level c level (free_count c.frames r.1) })

-- one event
unfoldable pub next : Config → Scene → Event → Result (Answer × Scene) Refusal
next c t e = settled c t.level (step c t.site t.level e)

abbrev pub after_one : ℕ → Result (Answer × Scene) Refusal → (Scene → Result Scene (ℕ × Refusal)) → Result Scene (ℕ × Refusal)
after_one i (Err e) go = Err (i, e)
after_one i (Ok r) go = go r.1

-- the first refused event, by its place, and its refusal; or the scene after all of them
unfoldable pub run_from : Config → ℕ → List Event → Scene → Result Scene (ℕ × Refusal)
run_from c i [] t = Ok t
run_from c i (e ∷ es) t = after_one i (next c t e) (λ u. run_from c (i + 1) es u)

abbrev pub run : Config → List Event → Result Scene (ℕ × Refusal)
run c es = run_from c 0 es (opening c)

abbrev pub shown_after : Config → Result Scene (ℕ × Refusal) → Result Book (ℕ × Refusal)
shown_after c (Err e) = Err e
shown_after c (Ok t) = Ok (shown c t)

-- the tables that a path leads to, or the first refused event
abbrev pub replay_of : Config → List Event → Result Book (ℕ × Refusal)
replay_of c es = shown_after c (run c es)

-- the free frames after each event of a path that is accepted
abbrev pub frees_after : Config → List Event → Result (Answer × Scene) Refusal → (Scene → List ℕ) → List ℕ
frees_after c es (Err e) go = []
frees_after c es (Ok r) go = free_count c.frames r.1.site ∷ go r.1

unfoldable pub frees_from : Config → List Event → Scene → List ℕ
frees_from c [] t = []
frees_from c (e ∷ es) t = frees_after c es (next c t e) (λ u. frees_from c es u)

-- the free frames after each event from the opening on
abbrev pub frees : Config → List Event → List ℕ
frees c es = frees_from c es (opening c)
